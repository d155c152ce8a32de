-- Additions, one after the other, to a table of a given capacity. Assumes nothing.
use Rattle.std.specs.Prelude.{ℕ, cond, List, [], ◌∷◌, length, nat_lt}
use Rattle.terms.specs.Kind.{KindModel}
use Rattle.terms.specs.Terms.{added}
use Rattle.terms.specs.declared.Term.{Term}

-- how a working ended, and the terms that stood in the table then: it went to its end, or an addition found no free row
pub data Ended (M : Type 0) : Type 0 where
  done : List (Term M) → Ended M
  full : List (Term M) → Ended M

-- the terms are added in order, up to the first that finds no free row
abbrev pub adding : {M : Type 0} → KindModel M → ℕ → List (Term M) → List (Term M) → Ended M
adding k cap [] ts = done ts
adding k cap (t ∷ adds) ts = cond (nat_lt cap (length (added k t.code t.mono ts))) (full ts) (adding k cap adds (added k t.code t.mono ts))
