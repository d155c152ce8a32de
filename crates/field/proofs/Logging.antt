-- Products by logarithms. Assumes nothing.
use Rattle.std.proofs.Common.{◌≡◌, ℕ, zero, suc, ◌+◌, ◌*◌, ◌^◌, ◌<◌, ◌≤◌, List, get_or, sym, ap, ◌∙◌, ap₂, add-zero, add-suc, arith, pow_mono}
use lib.Bits.{bit_xor}
use Rattle.algebra.specs.Poly.{Degree, along, xtime}
use Rattle.algebra.proofs.Along.{along_step, along_zero, along_one, along_of_zero}
use Rattle.algebra.proofs.Reduce.{xtime_linear}
use Rattle.algebra.proofs.ShiftLaws.{T-below, T-assoc, one_below}
use Rattle.field.specs.declared.shift.base.Base.{Base}
use Rattle.field.specs.declared.shift.base.Base.TheVariants.{X, XPlusOne}
use Rattle.field.specs.Logged.{raised, code, Logged}

module _ (k p : ℕ) (pos : 1 ≤ k) (d : Degree k p) where
  abbrev T : ℕ → ℕ → ℕ
  T a b = along (xtime k p) a b

  pub raised_below : (g i : ℕ) → raised k p g i < 2 ^ k
  raised_below g zero = one_below k p pos d
  raised_below g (suc i) = T-below k p pos d (raised k p g i) g (raised_below g i)

  -- the product by x, and by x + 1
  pub by_two : (y : ℕ) → xtime k p y ≡ T y 2
  by_two y =
      let f = xtime k p in
      let F = xtime_linear k p pos d in
      sym (along_step f F y 2 ∙ ap₂ bit_xor (let z : 0 * y ≡ 0 = omega arith in z) (ap f (along_one f F y)))

  pub by_three : (y : ℕ) → bit_xor y (xtime k p y) ≡ T y 3
  by_three y =
      let f = xtime k p in
      let F = xtime_linear k p pos d in
      sym (along_step f F y 3 ∙ ap₂ bit_xor (let z : 1 * y ≡ y = omega arith in z) (ap f (along_one f F y)))

  pub zero_left : (b : ℕ) → 0 ≡ T 0 b
  zero_left b = sym (along_of_zero (xtime k p) (xtime_linear k p pos d) b)

  pub zero_right : (a : ℕ) → 0 ≡ T a 0
  zero_right a = sym (along_zero (xtime k p) (xtime_linear k p pos d) a)

  module _ (two : 2 ≤ k) where
    code_below : (base : Base) → code base < 2 ^ k
    code_below X = let h : 2 ^ 2 ≤ 2 ^ k = pow_mono two in omega arith
    code_below XPlusOne = let h : 2 ^ 2 ≤ 2 ^ k = pow_mono two in omega arith

    -- the product of two powers
    raised_sum : (g i j : ℕ) → g < 2 ^ k → T (raised k p g i) (raised k p g j) ≡ raised k p g (i + j)
    raised_sum g i zero h = along_one (xtime k p) (xtime_linear k p pos d) (raised k p g i) ∙ ap (raised k p g) (sym (add-zero i))
    raised_sum g i (suc j) h =
        sym (T-assoc k p pos d (raised k p g i) (raised k p g j) g (raised_below g i) (raised_below g j) h)
        ∙ ap (λ (z : ℕ). T z g) (raised_sum g i j h) ∙ ap (raised k p g) (sym (add-suc i j))

    -- the product of two codes
    pub logged_product : (powers logs : List ℕ) → Logged k p powers logs → (a b : ℕ) → 0 < a → a < 2 ^ k → 0 < b → b < 2 ^ k → get_or powers (get_or logs a 0 + get_or logs b 0) 0 ≡ T a b
    logged_product powers logs L a b pa ha pb hb =
        let x = get_or logs a 0 in
        let y = get_or logs b 0 in
        let sx = L.small a in
        let sy = L.small b in
        let here = (λ (i : ℕ) (h : i < 256). L.power i (omega arith)) in
        L.power (x + y) (omega (arith, sx, sy)) ∙ sym (raised_sum (code L.base) x y (code_below L.base))
        ∙ ap₂ T (sym (here x sx) ∙ L.log a pa ha) (sym (here y sy) ∙ L.log b pb hb)
