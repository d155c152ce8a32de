use Rattle.std.proofs.Common.{◌≡◌, ◌*◌, ◌%◌, ◌^◌, ◌≤◌, cond, eqb, sym, ap, ◌∙◌, add-one, arith, pow_mono, eq-eqb, ne_eqb}
use lib.Bits.{xor_zero_r}
use Rattle.algebra.specs.Field.{product}
use Rattle.algebra.specs.Codes.{trace}
use Rattle.algebra.proofs.Squares.{next_sum}
use Rattle.algebra.proofs.Total.{product_below}
use Rattle.field.proofs.Signing.{by_bits, trace_adds}
use Rattle.field.proofs.dual.signature.Goals.{then-combine-one, else-combine-one}
use Rattle.field.proofs.dual.signature.Goals as goal

pub loop-j-preserved : goal.loop-j-preserved
loop-j-preserved g c =
    let m = g.F.Field.model c.args.f.now in
    let l = g.met.F.Field.holds c.args.f.now in
    let j = c.loop-j.j in
    let t = trace m (product m c.args.d (2 ^ j)) in
    let most : 2 ^ j ≤ 2 ^ 8 = pow_mono {i = j} {j = 8} (omega (arith, c.width-j-end.ensures, l.wide)) in
    let shifted : 1 * 2 ^ j % 65536 ≡ 2 ^ j = omega (arith, most) in
    let is : c.mul-product.result ≡ product m c.args.d (2 ^ j) = c.mul-product.ensures ∙ ap (product m c.args.d) shifted in
    let traced : c.combine.result ≡ t =
    c.combine.ensures ∙ ap (λ x. Rattle.field.specs.Signatures.combined m c.args.traces.now x) is
    ∙ by_bits m l (trace m) (trace_adds m l) c.args.traces.now (λ i h. c.requires i (omega (arith, l.wide))) (product m c.args.d (2 ^ j)) (product_below m l c.args.d (2 ^ j)) in
    let part = next_sum m l j c.loop-j.bits in
    rw add-one (elim c.if-combine-one.branch [
      | then-combine-one w ↦ w.bits-is ∙ part (1 * 2 ^ j % 65536) (λ j. cond (eqb (trace m (product m c.args.d (2 ^ j))) m.one) (2 ^ j) 0) c.loop-j.invariant
          (shifted ∙ ap (λ b. cond b (2 ^ j) 0) (sym (eq-eqb t m.one (sym traced ∙ w.if-combine-one.true ∙ c.one-one.ensures))))
      | else-combine-one w ↦ w.bits-is ∙ sym (xor_zero_r c.loop-j.bits) ∙ part 0 (λ j. cond (eqb (trace m (product m c.args.d (2 ^ j))) m.one) (2 ^ j) 0) c.loop-j.invariant
          (ap (λ b. cond b (2 ^ j) 0) (sym (ne_eqb t m.one (λ e. w.if-combine-one.false (traced ∙ e ∙ sym c.one-one.ensures)))))
    ])
