-- Where two bit forms differ. Assumes nothing.
use Rattle.std.specs.Prelude.{◌≡◌, ℕ, ◌<◌, ◌≤◌, true, false, cond, ◌⊎◌, List, [], ◌∷◌, length, Some, None, Option, ◌≢◌, nat_le}
use Rattle.terms.specs.Counts.{nets_in}
use Rattle.terms.specs.Nets.{net_model}
use Rattle.terms.specs.Sets.{Own}
use Rattle.terms.specs.Terms.{Falling, coeff}
use Rattle.terms.specs.declared.Term.{Term}
use Rattle.terms.specs.declared.nets.NetSet.{NetSet}

-- the set s stands in a term
abbrev pub Occurs : NetSet → List (Term NetSet) → Type 0
Occurs s [] = ⊥
Occurs s (t ∷ ts) = (s ≡ t.mono) ⊎ Occurs s ts

-- s comes before t: it has fewer nets, or as many and t is not below it in the order
abbrev pub Before : NetSet → NetSet → Type 0
Before s t = (nets_in s < nets_in t) ⊎ ((nets_in s ≡ nets_in t) × (net_model.less t s ≡ false))

-- of the sets whose codes differ (a set that is absent has code 0), s has the fewest nets, and of those with as few it is the lowest
pub record LeastDifference (us vs : List (Term NetSet)) (s : NetSet) : Type 0 where
  pub own : Own s
  pub occurs : Occurs s us ⊎ Occurs s vs
  pub apart : coeff net_model s us ≡ coeff net_model s vs → ⊥
  pub least : (t : NetSet) → (coeff net_model t us ≢ coeff net_model t vs) → Before s t

-- no set where the forms are one, else the least
abbrev pub DifferenceIs : List (Term NetSet) → List (Term NetSet) → Option NetSet → Type 0
DifferenceIs us vs None = us ≡ vs
DifferenceIs us vs (Some s) = LeastDifference us vs s

-- ---- the walk down two lists of terms
-- no set that stands in a term is above m
abbrev pub NoneAbove : NetSet → List (Term NetSet) → Type 0
NoneAbove m ts = (t : NetSet) → Occurs t ts → net_model.less m t ≡ false

-- m is the greatest set of both lists
pub record Leading (us vs : List (Term NetSet)) (m : NetSet) : Type 0 where
  pub occurs : Occurs m us ⊎ Occurs m vs
  pub left : NoneAbove m us
  pub right : NoneAbove m vs

-- no set where there is no term, else the greatest
abbrev pub LeadingIs : List (Term NetSet) → List (Term NetSet) → Option NetSet → Type 0
LeadingIs us vs None = (us ≡ []) × (vs ≡ [])
LeadingIs us vs (Some m) = Leading us vs m

-- the set m with code c is taken off ts, where it stands there, and rest is left; c is 0 where it does not
pub record TakenOff (m : NetSet) (c : ℕ) (ts rest : List (Term NetSet)) : Type 0 where
  pub here : coeff net_model m ts ≡ c
  pub others : (t : NetSet) → (t ≢ m) → coeff net_model t ts ≡ coeff net_model t rest
  pub kept : (t : NetSet) → Occurs t rest → Occurs t ts
  pub under : (t : NetSet) → Occurs t rest → net_model.less t m ≡ true
  pub falling : Falling net_model rest

-- rest is ts with the row of m taken off, where m stands there
pub record RowOf (m : NetSet) (c : ℕ) (ts rest : List (Term NetSet)) : Type 0 where
  pub taken : TakenOff m c ts rest
  pub within : length rest ≤ length ts
  pub onward : Occurs m ts → length rest < length ts

-- the better of the least set so far and a set below all before it
abbrev pub better : Option NetSet → NetSet → NetSet
better None s = s
better (Some b) s = cond (nat_le (nets_in s) (nets_in b)) s b
