use Rattle.std.proofs.Common.{◌≡◌, take}
use Rattle.bounded.specs.Items.{items}
use Rattle.netlist.specs.Circuits.{Below, net_numbers}
use Rattle.netlist.proofs.read.driven_nets.Given as goal

abbrev pub invariant-loop-number : goal.invariant-loop-number
invariant-loop-number l = (net_numbers (items l.nets) ≡ take l.number-index l.numbers) × Below l.driven (take l.number-index l.numbers)
