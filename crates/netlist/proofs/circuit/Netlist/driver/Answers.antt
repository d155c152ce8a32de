use Rattle.std.proofs.Common.{arith}
use Rattle.netlist.proofs.Formed.{driver_is}
use Rattle.netlist.proofs.circuit.Netlist.driver.Goals as goal

pub returns : goal.returns
returns c =
    let found = rw (c.as_slice.ensures, c.inputs-first.ensures) at c.get.ensures.lookup.3 in
    rw c.copied.ensures (driver_is c.args.self.now c.args.x c.get.result (omega (arith, c.inputs-first.ensures)) found)
