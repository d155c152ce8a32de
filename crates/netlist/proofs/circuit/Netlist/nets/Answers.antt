use Rattle.std.proofs.Common.{arith}
use Rattle.netlist.proofs.Formed.{formed, few_places}
use Rattle.netlist.proofs.circuit.Netlist.nets.Goals as goal

pub returns-clause-few : goal.returns-clause-few
returns-clause-few c = omega (arith, few_places c.args.self.now)

pub returns-clause-formed : goal.returns-clause-formed
returns-clause-formed c = formed c.args.self.now
