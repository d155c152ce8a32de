use Rattle.std.proofs.Common.{◌≡◌, ◌+◌, ◌-◌, ◌/◌, ℕ, List, ◌≤◌, slice_index, sym, ap, ◌∙◌, subst, arith}
use Rattle.terms.specs.Sets.{holds}
use Rattle.cards.specs.Shapes.{bump, counted}
use Rattle.cards.proofs.Shaping.{counted_on, counted_off, bump_is, bump_most}
use Rattle.cards.proofs.shapes.bounds.Words.shape.Goals as goal
use Rattle.cards.proofs.shapes.bounds.Words.shape.Goals.{then-has, else-has}

pub loop-p-preserved : goal.loop-p-preserved
loop-p-preserved c =
    let k = c.args.self.now.width in
    let held = holds c.args.s in
    let p = c.loop-p.p in
    let n = c.args.places in
    let ss = c.loop-p.counts in
    let rest = λ (zs : List ℕ). counted k held (p + 1) (n - (p + 1)) zs in
    elim c.if-has.branch [
      | then-has w ↦
          let is : c.if-has.counts ≡ bump (p / k) ss = w.counts-is ∙ sym (bump_is (p / k) ss) in (
            ap rest is ∙ sym (counted_on k held p n c.loop-p-test.true ss (sym c.has.ensures ∙ w.if-has.true)) ∙ c.loop-p.invariant.0,
            subst (λ (zs : List ℕ). (v : ℕ) → slice_index zs v ≤ p + 1) (sym is) (bump_most (p / k) ss p c.loop-p.invariant.1),
          )
      | else-has w ↦ (
        ap rest w.counts-is ∙ sym (counted_off k held p n c.loop-p-test.true ss (sym c.has.ensures ∙ w.if-has.false)) ∙ c.loop-p.invariant.0,
        subst (λ (zs : List ℕ). (v : ℕ) → slice_index zs v ≤ p + 1) (sym w.counts-is) (λ v. omega (arith, c.loop-p.invariant.1 v)),
      )
    ]
