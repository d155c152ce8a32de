-- The products of the terms of two lists, in the order in which they are added. Assumes nothing.
use Rattle.std.specs.Prelude.{ℕ, List, [], ◌∷◌, ◌++◌}
use Rattle.terms.specs.Kind.{KindModel}
use Rattle.terms.specs.Terms.{term}
use Rattle.terms.specs.declared.Term.{Term}

-- the products of a term with each term of us, in order
abbrev pub products : {M : Type 0} → KindModel M → (ℕ → ℕ → ℕ) → ℕ → M → List (Term M) → List (Term M)
products k mul c m [] = []
products k mul c m (u ∷ us) = term (mul c u.code) (k.times m u.mono) ∷ products k mul c m us

-- the products of each term of ts with each of us, in order
abbrev pub all_products : {M : Type 0} → KindModel M → (ℕ → ℕ → ℕ) → List (Term M) → List (Term M) → List (Term M)
all_products k mul [] us = []
all_products k mul (t ∷ ts) us = products k mul t.code t.mono us ++ all_products k mul ts us
