-- What `array::from_fn` makes by a closure that its calls leave as it was. Assumes nothing.
use Rattle.std.proofs.Common.{◌≡◌, ℕ, zero, suc, ◌+◌, ◌<◌, ◌≤◌, List, get_or, sym, subst, arith}
use Rattle.std.specs.Array.{IsFromFnResult, IsFromFnResultFrom}
use Rattle.std.specs.Fn.{Called}
use native.Mathlib.Decide.{ℕ_discrete}
use denote.Param.Members.{Mut}

module _ {F B : Type 0} (g : Mut F (ℕ × Unit {0}) B) (P : ℕ → B → Type 0) (f : F) (call : (i : ℕ) (y : B) (q : F) → Called g f (i, tt) y q → (q ≡ f) × P i y) where
  made_from : (ys : List B) (i n : ℕ) → IsFromFnResultFrom g f ys i n → (k : ℕ) (d : B) → i ≤ k → k < i + n → P k (get_or ys k d)
  made_from ys i zero h k d a b = absurd (omega arith)
  made_from ys i (suc n) h k d a b =
      let made = call i h.1 h.0 h.3 in
      elim (ℕ_discrete i k) [
        | yes e ↦ subst (λ j. P j (get_or ys j d)) e (subst (P i) (sym (h.2.1 d)) made.1)
        | no ne ↦ made_from ys (i + 1) n (subst (λ p. IsFromFnResultFrom g p ys (i + 1) n) made.0 h.4) k d (omega (arith, ne)) (omega arith)
      ]

  pub each_made : (ys : List B) (n : ℕ) → IsFromFnResult g f ys n → (k : ℕ) (d : B) → k < n → P k (get_or ys k d)
  each_made ys n h k d b = made_from ys 0 n h.each k d (omega arith) (omega arith)
