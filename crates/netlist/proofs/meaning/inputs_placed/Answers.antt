use Rattle.netlist.proofs.Inputs.{inputs_placed_lem}
use Rattle.netlist.proofs.meaning.inputs_placed.Goals as goal

pub returns : goal.returns
returns c = inputs_placed_lem
