use Rattle.std.proofs.Common.{arith}
use Rattle.terms.proofs.Changes.{single_net}
use Rattle.terms.proofs.nets.NetSet.of_net.Goals as goal

pub returns : goal.returns
returns c = rw c.from.ensures (single_net c.args.g (omega (arith, c.ranges.g.fits)))
