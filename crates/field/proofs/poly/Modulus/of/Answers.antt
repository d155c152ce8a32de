use Rattle.algebra.proofs.Reduce.{degree_low, degree_high, degree_ilog2}
use Rattle.field.proofs.poly.Modulus.of.Goals as goal

pub invariant_of-result : goal.invariant_of-result
invariant_of-result c =
    let k = c.ilog2.result in
    let degree = degree_ilog2 k c.args.p c.ilog2.ensures.power_le c.ilog2.ensures.next_power_gt in
    record { some = degree_low 1 k c.args.p degree c.requires.least; few = degree_high 8 k c.args.p degree c.requires.most; degree = degree }
