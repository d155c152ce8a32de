use Rattle.std.proofs.Common.{◌≡◌, ◌-◌, ◌*◌, length}
use Rattle.bounded.specs.Items.{items}
use Rattle.netlist.proofs.Runs.{Reading}
use Rattle.netlist.proofs.read.read_lines.Given as goal

abbrev pub invariant-loop-entry : goal.invariant-loop-entry
invariant-loop-entry l = (l.inputs ≡ l.n * l.k) × Reading l.n l.k l.text (items l.gates) l.left

abbrev pub decreases-loop-entry : goal.decreases-loop-entry
decreases-loop-entry l = 256 - length (items l.gates)
