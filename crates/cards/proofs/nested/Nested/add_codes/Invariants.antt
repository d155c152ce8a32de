use Rattle.std.proofs.Common.{take}
use Rattle.terms.specs.Exps.{exp_model}
use Rattle.terms.specs.Lent.{live, Kept}
use Rattle.cards.specs.Nested.{Gained}
use Rattle.cards.proofs.nested.Nested.add_codes.Given as goal

abbrev pub invariant-loop-t : goal.invariant-loop-t
invariant-loop-t g l =
    let ring = l.self.conversion.ring in
    let k = exp_model ring.kind.now.tops in
    Kept k l.initial.out l.out × Gained (g.F.Field.model ring.field.now) k 0 (take l.t-index l.bits) (live l.initial.out) (live l.out)
