-- One turn of the working: the leading term, and the gate that its greatest net leads to. Assumes nothing.
use Rattle.std.specs.Prelude.{◌≡◌, ℕ, List, ◌∷◌, Some, None, Option}
use Rattle.terms.specs.Sets.{Top}
use Rattle.terms.specs.declared.Term.{Term}
use Rattle.terms.specs.declared.nets.NetSet.{NetSet}
use Rattle.terms.specs.Additions.{done}
use Rattle.netlist.specs.Circuits.{Circuit}
use Rattle.netlist.specs.Netlists.{DriverIs}
use Rattle.netlist.specs.declared.gate.Gate.{Gate}
use Rattle.gates.specs.Reductions.{Reduces}

-- t leads ts, g is its greatest net, and the gate drives g
pub record Turn (c : Circuit) (ts : List (Term NetSet)) (t : Term NetSet) (g : ℕ) (gate : Gate) : Type 0 where
  pub leads : (rest : List (Term NetSet)) × (ts ≡ t ∷ rest)
  pub top : Top t.mono g
  pub driver : DriverIs c g (Some gate)

-- the next turn; where there is none, the working has ended
abbrev pub NextGate : Circuit → List (Term NetSet) → Option (Term NetSet × ℕ × Gate) → Type 0
NextGate c ts None = (cap : ℕ) → Reduces c cap ts (done ts)
NextGate c ts (Some x) = Turn c ts x.0 x.1 x.2
