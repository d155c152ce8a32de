use Rattle.std.proofs.Common.{◌-◌}
use Rattle.algebra.specs.Field.{product}
use Rattle.convert.specs.Convert.{block, chosen}
use Rattle.convert.proofs.Midway.{Midway}
use Rattle.convert.proofs.working.Conversion.multiply_out.Given as goal

abbrev pub invariant-loop-p : goal.invariant-loop-p
invariant-loop-p g l =
    let f = l.self.factors in
    let chosen_from = chosen (g.H.Holds.held l.self.source.now l.s) (block f.width f.sums.now) in
    Midway (g.K.Kind.model l.self.ring.kind.now) (product (g.F.Field.model l.self.ring.field.now)) l.initial.first l.first l.initial.second l.second
    (chosen_from l.p (f.places - l.p)) (chosen_from 0 f.places)
