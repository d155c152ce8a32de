-- Sets united with the nets of a tail. Assumes nothing.
use Rattle.std.proofs.Common.{◌≡◌, ℕ, Bool, false, ◌||◌, [], ◌∷◌, ap, ◌∙◌}
use Rattle.std.proofs.Math.Bool.{or-false, or_assoc}
use Rattle.terms.specs.Nets.{net_model}
use Rattle.terms.specs.Sets.{holds, Own, SetOf}
use Rattle.terms.specs.declared.nets.NetSet.{NetSet}
use Rattle.terms.specs.BothKinds.{net_laws}
use Rattle.terms.proofs.Members.{laws_of_sets}
use Rattle.gates.specs.Tails.{Joined}

pub or_once : (a b c : Bool) → ((a || (b || false)) || c) ≡ (a || (b || c))
or_once a b c = ap (λ x. (a || x) || c) (or-false b) ∙ or_assoc a b c

pub joined_one : (s u : NetSet) (x : ℕ) → Own s → SetOf (x ∷ []) u → Joined s (x ∷ []) (net_model.times s u)
joined_one s u x o p = record {
  own = net_laws.times_own s u o p.own;
  members = λ h. laws_of_sets.union s u o p.own h ∙ ap (λ b. holds s h || b) (p.members h);
}
