-- The shape of a set: how many bits of each word it holds. It bounds the rows that the set's products can have. Assumes nothing.
use Rattle.std.specs.Prelude.{◌≡◌, ℕ, zero, suc, ◌+◌, ◌*◌, ◌/◌, ◌≤◌, min, Bool, cond, List, [], ◌∷◌}
use Rattle.algebra.specs.Lists.{Mem}
use Rattle.terms.specs.Sets.{holds}
use Rattle.terms.specs.Terms.{Monos}
use Rattle.terms.specs.declared.Term.{Term}
use Rattle.terms.specs.declared.nets.NetSet.{NetSet}
use Rattle.cards.specs.declared.shapes.Shape.{Shape}

-- one more bit of word w
abbrev pub bump : ℕ → List ℕ → List ℕ
bump w [] = []
bump zero (s ∷ ss) = suc s ∷ ss
bump (suc w) (s ∷ ss) = s ∷ bump w ss

-- what becomes of these numbers, of words of k bits, by the nets held among n nets from net p on
abbrev pub counted : ℕ → (ℕ → Bool) → ℕ → ℕ → List ℕ → List ℕ
counted k held p zero ss = ss
counted k held p (suc n) ss = cond (held p) (counted k held (suc p) n (bump (p / k) ss)) (counted k held (suc p) n ss)

-- as many exponents of a word at most have the products of s sums of bits of that word, over a field of q elements
abbrev pub exponents : ℕ → ℕ → ℕ → ℕ
exponents k q zero = 1
exponents k q (suc s) = min (k * exponents k q s) q

-- as many rows at most have the products of so many sums of each word
abbrev pub rows : ℕ → ℕ → List ℕ → ℕ
rows k q [] = 1
rows k q (s ∷ ss) = exponents k q s * rows k q ss

-- as many rows have the products of all these shapes
abbrev pub all_rows : ℕ → ℕ → List Shape → ℕ
all_rows k q [] = 0
all_rows k q (x ∷ xs) = rows k q x.counts + all_rows k q xs

-- each shape has at most `cap` rows
abbrev pub EachFits : ℕ → ℕ → ℕ → List Shape → Type 0
EachFits k q cap [] = Unit {0}
EachFits k q cap (x ∷ xs) = (rows k q x.counts ≤ cap) × EachFits k q cap xs

-- the set, of which `held` says which nets it holds, has one of these shapes
abbrev pub Shaped : ℕ → ℕ → List Shape → (ℕ → Bool) → Type 0
Shaped k places xs held = (x : Shape) × Mem x xs × (counted k held 0 places (0 ∷ (0 ∷ (0 ∷ []))) ≡ x.counts)

-- the sets have these shapes alone, each shape has at most `cap` rows, and all together have at most `count`
pub record ShapesFit (k q places cap count : ℕ) (bits : List (Term NetSet)) : Type 0 where
  pub shapes : List Shape
  pub sets : Monos (λ s. Shaped k places shapes (holds s)) bits
  pub each : EachFits k q cap shapes
  pub all : all_rows k q shapes ≤ count
