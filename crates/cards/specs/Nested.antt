-- The card worked in nested form: net by net, from the greatest down. Assumes nothing.
use Rattle.std.specs.Prelude.{◌≡◌, ℕ, ◌<◌, Bool, true, false, cond, not, ◌||◌, List, ◌++◌, take, Some, None, Option, bit_xor}
use Rattle.algebra.specs.Codes.{Dual}
use Rattle.algebra.specs.Field.{FieldData, size}
use Rattle.convert.specs.Convert.{finished}
use Rattle.terms.specs.Kind.{KindModel}
use Rattle.terms.specs.Lent.{live, Sound}
use Rattle.terms.specs.Sets.{holds}
use Rattle.terms.specs.Terms.{Codes, Monos, Table, value}
use Rattle.terms.specs.Values.{every, bit_at}
use Rattle.terms.specs.declared.Term.{Term}
use Rattle.terms.specs.declared.nets.NetSet.{NetSet}
use Rattle.terms.specs.declared.table.TermTable.{TermTable}
use Rattle.cards.specs.Law.{card_value}
use Rattle.cards.specs.Sums.{card_kind}
use Rattle.cards.specs.Working.{card_working}

-- each net of s below p has bit one
abbrev pub on_below : ℕ → (ℕ → Bool) → NetSet → Bool
on_below p v s = every p (λ g. not (holds s g) || v g)

-- the sum of the codes whose sets hold, of the nets below p, only one bits
abbrev pub value_below : ℕ → (ℕ → Bool) → List (Term NetSet) → ℕ
value_below p v ts = value (λ c s. cond (on_below p v s) c 0) ts

-- the terms ss hold net p, and the terms ts behind them lack it
pub record ByNet (p : ℕ) (bits ss ts : List (Term NetSet)) : Type 0 where
  pub whole : bits ≡ ss ++ ts
  pub held : Monos (λ s. holds s p ≡ true) ss
  pub lacked : Monos (λ s. holds s p ≡ false) ts

-- rows of the kind, with codes of the field
pub record OwnTerms (m : FieldData) (k : KindModel (List ℕ)) (ts : List (Term (List ℕ))) : Type 0 where
  pub rows : Monos (λ r. k.own r ≡ true) ts
  pub codes : Codes (λ c. c < size m) ts

-- a table of such rows
pub record CardTable (m : FieldData) (k : KindModel (List ℕ)) (t : TermTable (List ℕ)) : Type 0 where
  pub table : Sound k t
  pub own : OwnTerms m k (live t)

-- at every input, us is the sum of ts and of the terms of a bit form, of whose nets those below p count
pub record Gained (m : FieldData) (k : KindModel (List ℕ)) (p : ℕ) (bits : List (Term NetSet)) (ts us : List (Term (List ℕ))) : Type 0 where
  pub own : OwnTerms m k us
  pub values : (xs : List ℕ) → k.own xs ≡ true → card_value m us xs ≡ bit_xor (value_below p (bit_at m.width xs) bits) (card_value m ts xs)

-- with tables of these capacities the working goes to its end
abbrev pub Finishes : FieldData → ℕ → ℕ → ℕ → List (Term NetSet) → Type 0
Finishes m n cap count bits = (d : ℕ → ℕ) → ((i : ℕ) → i < m.width → Dual m i (d i)) → (us : List (Term (List ℕ))) × (card_working m n d cap count bits ≡ finished us)

-- where a number is answered, the rows hold as many terms, and the working ends in them, whatever the duals of the bits that it is given
abbrev pub NestedAnswer : FieldData → ℕ → ℕ → ℕ → List (Term NetSet) → List (Term (List ℕ)) → Option ℕ → Type 0
NestedAnswer m n cap count bits rows (Some t) =
    ((d : ℕ → ℕ) → ((i : ℕ) → i < m.width → Dual m i (d i)) → card_working m n d cap count bits ≡ finished (take t rows)) × Table (card_kind m n) rows t
NestedAnswer m n cap count bits rows None = Unit {0}
