use Rattle.std.proofs.Common.{ℕ, ◌^◌, ◌≤◌, subst, arith, pow_mono}
use Rattle.algebra.specs.Field.{size}
use Rattle.cards.proofs.CardLaw.{enough}
use Rattle.cards.proofs.Fitting.{shapes_finish}
use Rattle.cards.proofs.nested.Nested.certain.Goals as goal

pub rows_suffice-requires-clause-small : goal.rows_suffice-requires-clause-small
rows_suffice-requires-clause-small g c =
    let m = g.F.Field.model c.args.self.now.conversion.ring.field.now in
    let l = g.met.F.Field.holds c.args.self.now.conversion.ring.field.now in
    let small : size m ≤ 256 = pow_mono l.wide in
    omega arith

pub returns-then-rows_suffice : goal.returns-then-rows_suffice
returns-then-rows_suffice g c = λ _ d duals.
    let self = c.args.self.now in
    let m = g.F.Field.model self.conversion.ring.field.now in
    let l = g.met.F.Field.holds self.conversion.ring.field.now in
    let e = c.order.ensures in
    let s = c.if-rows_suffice.ensures in
    let x = enough m l self.words self.few d duals c.args.cap c.args.count (subst (λ (q : ℕ). q ^ self.words ≤ c.args.cap) e (s.product tt))
    (subst (λ (q : ℕ). q ^ self.words ≤ c.args.count) e (s.outcome tt)) c.args.bits.now in
    (x.0, x.1)

pub returns-else-rows_suffice : goal.returns-else-rows_suffice
returns-else-rows_suffice g c = λ h.
    let self = c.args.self.now in
    let m = g.F.Field.model self.conversion.ring.field.now in
    let l = g.met.F.Field.holds self.conversion.ring.field.now in
    shapes_finish m l self.words self.few c.args.cap c.args.count c.args.bits.now (c.shapes_fit.ensures h)
