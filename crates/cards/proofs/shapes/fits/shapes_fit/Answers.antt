use Rattle.std.proofs.Common.{ℕ, ◌*◌, ◌≤◌, take, sym, subst, subst₂, lit≤}
use Rattle.std.proofs.lemmas.List.{take_all}
use Rattle.terms.specs.Sets.{holds}
use Rattle.terms.specs.Terms.{Monos}
use Rattle.cards.specs.Met.{met}
use Rattle.cards.specs.Shapes.{Shaped, ShapesFit}
use Rattle.cards.proofs.Gains.{monos_next}
use Rattle.cards.proofs.Shaping.{shaped_kept}
use Rattle.cards.proofs.shapes.fits.shapes_fit.Goals as goal

pub loop-t-preserved : goal.loop-t-preserved
loop-t-preserved g c =
    let k = c.of-words.result.width in
    let places = c.args.n * k in
    let s = c.note.ensures in
    let f = c.note.new.self in (
      s.sums,
      monos_next (λ s. Shaped k places (met f) (holds s)) c.args.bits.now c.loop-t.t-index _ c.loop-t-test.true
          (shaped_kept k places (met c.loop-t.found) (met f) s.kept (take c.loop-t.t-index c.args.bits.now) c.loop-t.invariant.1)
          (c.shape.result, c.if-not-note.ensures.has tt, sym c.shape.ensures),
    )

pub returns : goal.returns
returns g c = λ h.
    let w = c.of-words in
    let f = c.loop-t.found in
    subst₂ (λ (k q : ℕ). ShapesFit k q (c.args.n * k) c.args.cap c.args.count c.args.bits.now) w.ensures.width w.ensures.order
    record {
      shapes = met f;
      sets = subst (Monos (λ s. Shaped w.result.width (c.args.n * w.result.width) (met f) (holds s))) (take_all c.loop-t.t-index c.args.bits.now c.loop-t-test.false) c.loop-t.invariant.1;
      each = c.loop-t.invariant.0.each;
      all = subst (λ (z : ℕ). z ≤ c.args.count) c.loop-t.invariant.0.rows (lit≤ h);
    }
