use Rattle.std.proofs.Common.{◌≡◌, ℕ, ◌+◌, ◌*◌, ◌/◌, ◌%◌, ◌^◌, ◌<◌, ◌≤◌, List, length, get_or, set, sym, refl, ap, ◌∙◌, subst, ap₂, mod-lt, arith, length-set, get_or-set_same, pow_pos, pow_mono, below_more}
use lib.Bits.{bit_xor, xor_comm, xor_shifted}
use Rattle.algebra.specs.Field.{FieldData, FieldLaws, size}
use Rattle.field.specs.Signatures.{combined, signature}
use Rattle.field.proofs.Lists.{set_cases, zeros}
use Rattle.field.proofs.Signing.{by_bits, signature_adds, signature_below}
use Rattle.field.proofs.dual.codes_of.Goals as goal

pub loop-d-init : goal.loop-d-init
loop-d-init g c =
    let m = g.F.Field.model c.args.f.now in
    (refl, λ s. subst (λ v. v < size m) (sym (zeros 256 s)) (pow_pos m.width), λ d h. absurd (omega arith))

-- the low and the high four bits of a number add up to it
parts : (d : ℕ) → bit_xor (d % 16 * 1) (d / 16 * 16) ≡ d
parts d =
    let low : d % 16 < 2 ^ 4 = mod-lt d (omega arith) in
    xor_comm (d % 16 * 1) (d / 16 * 16) ∙ ap (bit_xor (d / 16 * 16)) (let e : d % 16 * 1 ≡ d % 16 = omega arith in e) ∙ xor_shifted (d / 16) 4 (d % 16) low ∙ (let e : d / 16 * 16 + d % 16 ≡ d = omega arith in e)

-- the sum i of those at the two halves of d is its signature, which is below 256
by_halves : (m : FieldData) (l : FieldLaws m) (columns low high : List ℕ) → ((i : ℕ) → i < 8 → get_or columns i 0 ≡ signature m (2 ^ i))
    → ((i : ℕ) → i < 16 → get_or low i 0 ≡ combined m columns (i * 1)) → ((i : ℕ) → i < 16 → get_or high i 0 ≡ combined m columns (i * 16))
    → (d q r s i : ℕ) → q ≡ size m → d < q → r ≡ d % 16 → s ≡ d / 16 → i ≡ bit_xor (get_or low r 0) (get_or high s 0) → (i ≡ signature m d) × (i < 256)
by_halves m l columns low high h a b d q r s i whole code er es ei =
    let most : size m ≤ 2 ^ 8 = pow_mono {i = m.width} {j = 8} l.wide in
    let x : d % 16 * 1 < size m = omega (arith, code) in
    let y : d / 16 * 16 < size m = omega (arith, code) in
    let at = by_bits m l (signature m) (signature_adds m l) columns (λ i k. h i (omega (arith, l.wide))) in
    let is : i ≡ signature m d =
    ei ∙ ap₂ (λ r s. bit_xor (get_or low r 0) (get_or high s 0)) er es
    ∙ ap₂ bit_xor (a (d % 16) (omega arith) ∙ at (d % 16 * 1) x) (b (d / 16) (omega (arith, most, code)) ∙ at (d / 16 * 16) y)
    ∙ sym (signature_adds m l (d % 16 * 1) (d / 16 * 16) x y) ∙ ap (signature m) (parts d) in
    (is, omega (arith, signature_below m l d, most))

pub bounds-codes-from : goal.bounds-codes-from
bounds-codes-from g c =
    let is = by_halves (g.F.Field.model c.args.f.now) (g.met.F.Field.holds c.args.f.now) _ _ _ c.signatures-columns.ensures c.combined_steps-low.ensures c.combined_steps-high.ensures _ _ _ _ _
    c.order-d-end.ensures c.loop-d-test.true c.from.ensures c.from-in-loop-d.ensures c.from-in-loop-d-2.ensures in
    omega (arith, is)

pub offset_bounds-codes-from : goal.offset_bounds-codes-from
offset_bounds-codes-from g c =
    let is = by_halves (g.F.Field.model c.args.f.now) (g.met.F.Field.holds c.args.f.now) _ _ _ c.signatures-columns.ensures c.combined_steps-low.ensures c.combined_steps-high.ensures _ _ _ _ _
    c.order-d-end.ensures c.loop-d-test.true c.from.ensures c.from-in-loop-d.ensures c.from-in-loop-d-2.ensures in
    omega (arith, is)

pub loop-d-preserved : goal.loop-d-preserved
loop-d-preserved g c =
    let m = g.F.Field.model c.args.f.now in
    let d = c.loop-d.d in
    let i = c.from-in-loop-d-2.result in
    let is = by_halves m (g.met.F.Field.holds c.args.f.now) _ _ _ c.signatures-columns.ensures c.combined_steps-low.ensures c.combined_steps-high.ensures d _ _ _ _
    c.order-d-end.ensures c.loop-d-test.true c.from.ensures c.from-in-loop-d.ensures c.from-in-loop-d-2.ensures in
    let within : i < length c.loop-d.codes = omega (arith, is, c.loop-d.invariant.0) in (
      simp length-set c.loop-d.invariant.0,
      λ s. set_cases (λ v. v < size m) c.loop-d.codes i d s within (λ e. omega (arith, c.order-d-end.ensures)) (c.loop-d.invariant.1 s),
      below_more _ _
          (λ k h. set_cases (λ v. signature m v ≡ signature m k) c.loop-d.codes i d (signature m k) within (λ e. sym is.0 ∙ sym e) (c.loop-d.invariant.2 k h))
          (subst (λ s. signature m (get_or (set c.loop-d.codes i d) s 0) ≡ signature m d) is.0 (rw get_or-set_same refl)),
    )
