use Rattle.std.proofs.Common.{arith}
use Rattle.terms.proofs.Subsets.{low_members}
use Rattle.terms.proofs.nets.NetSet.of_low.Goals as goal

pub returns-clause-members : goal.returns-clause-members
returns-clause-members c = low_members c.args.bits (omega (arith, c.ranges.bits.fits))
