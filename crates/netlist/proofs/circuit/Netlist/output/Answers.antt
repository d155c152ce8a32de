use Rattle.std.proofs.Common.{◌≡◌, ◌<◌, slice_index, sym, subst, arith}
use Rattle.std.proofs.lemmas.Grind.{common_steps}
use Rattle.netlist.specs.Circuits.{nets}
use Rattle.netlist.specs.Netlists.{circuit}
use Rattle.netlist.proofs.Formed.{output_driven}
use Rattle.netlist.proofs.circuit.Netlist.output.Goals as goal

pub returns-clause-driven : goal.returns-clause-driven
returns-clause-driven c =
    let same : c.unwrap_or.result.0 ≡ slice_index (circuit c.args.self.now).outs c.args.i = grind (arith, common_steps) in
    subst (λ x. x < nets (circuit c.args.self.now)) (sym same) (output_driven c.args.self.now c.args.i)
