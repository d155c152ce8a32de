use Rattle.std.proofs.Common.{◌≡◌, slice_index, ap, ◌∙◌, arith}
use Rattle.std.proofs.lemmas.Grind.{common_steps}
use Rattle.bounded.specs.Items.{items}
use Rattle.netlist.specs.Circuits.{net_numbers}
use Rattle.netlist.proofs.Steps.{below_at, nets_more, below_more}
use Rattle.netlist.proofs.read.driven_nets.Goals as goal

pub returns-then-from-driven : goal.returns-then-from-driven
returns-then-from-driven c b =
    let low = below_at c.args.driven c.args.numbers.now c.loop-number.number-index (omega arith) b in
    let same : c.in_ok-net.net ≡ slice_index c.args.numbers.now c.loop-number.number-index = grind (arith, common_steps) in
    omega arith

pub loop-number-preserved : goal.loop-number-preserved
loop-number-preserved c =
    let same : c.in_ok-net.net ≡ slice_index c.args.numbers.now c.loop-number.number-index = grind (arith, common_steps) in
    let more = nets_more (items c.loop-number.nets) (record { 0 = c.in_ok-net.net }) c.args.numbers.now c.loop-number.number-index (omega arith) c.loop-number.invariant.0 same in
    (ap net_numbers c.push.ensures ∙ more, below_more _ _ _ (omega arith) c.loop-number.invariant.1 (omega arith))
