-- What a card row has to have by itself. Assumes nothing.
use Rattle.std.specs.Prelude.{◌≡◌, ℕ, ◌<◌, true, List}
use Rattle.terms.specs.Numbers.{inside}
use Rattle.terms.specs.declared.Term.{Term}

-- a code below q that is not 0, and exponents up to the largest
pub record Lawful (q : ℕ) (tops : List ℕ) (row : Term (List ℕ)) : Type 0 where
  pub nonzero : 0 < row.code
  pub code : row.code < q
  pub own : inside tops row.mono ≡ true
