use Rattle.std.proofs.Common.{ap, ◌∙◌}
use lib.Bits.{bit_xor}
use Rattle.field.proofs.Logging.{by_two, by_three}
use Rattle.field.proofs.shift.base.Base.times.Goals as goal

pub returns-in-X : goal.returns-in-X
returns-in-X c = let m = c.args.m in rw c.in-X.is (c.times_x-z.ensures ∙ by_two m.k m.p m.some m.degree c.args.y)

pub returns-in-XPlusOne : goal.returns-in-XPlusOne
returns-in-XPlusOne c = let m = c.args.m in rw c.in-XPlusOne.is (ap (bit_xor c.args.y) c.times_x-z.ensures ∙ by_three m.k m.p m.some m.degree c.args.y)
