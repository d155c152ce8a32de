-- The sets that take the place of a gate's net. Assumes nothing.
use Rattle.std.specs.Prelude.{◌≡◌, ℕ, ◌||◌, List, [], ◌∷◌, Ok, Err, Result}
use Rattle.terms.specs.Terms.{term}
use Rattle.terms.specs.declared.Term.{Term}
use Rattle.terms.specs.declared.table.Full.{Full}
use Rattle.terms.specs.declared.nets.NetSet.{NetSet}
use Rattle.terms.specs.Sets.{holds, Own, among}
use Rattle.terms.specs.Additions.{Ended, done, full}

-- u is s united with the nets xs
pub record Joined (s : NetSet) (xs : List ℕ) (u : NetSet) : Type 0 where
  pub own : Own u
  pub members : (h : ℕ) → holds u h ≡ (holds s h || among h xs)

-- each of the sets us is s united with one of the lists of nets, in order
abbrev pub Joins : NetSet → List (List ℕ) → List NetSet → Type 0
Joins s [] [] = Unit {0}
Joins s [] (u ∷ us) = ⊥
Joins s (xs ∷ xss) [] = ⊥
Joins s (xs ∷ xss) (u ∷ us) = Joined s xs u × Joins s xss us

-- code c with each of the sets
abbrev pub each : ℕ → List NetSet → List (Term NetSet)
each c [] = []
each c (u ∷ us) = term c u ∷ each c us

-- how a working ended, by its answer and the terms that stand in the table then
abbrev pub ended : Result (Unit {0}) Full → List (Term NetSet) → Ended NetSet
ended (Ok x) ts = done ts
ended (Err e) ts = full ts
