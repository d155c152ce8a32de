-- Additive maps by their values at the codes 2^i; a code is the dual of bit i where its signature is 2^i. Assumes nothing.
use Rattle.std.proofs.Common.{◌≡◌, ℕ, zero, suc, ◌%◌, ◌^◌, ◌<◌, ◌≤◌, Bool, true, false, cond, eqb, ◌⊎◌, List, get_or, sym, refl, ap, ◌∙◌, subst, ap₂, inl, inr, mod-lt, mod-eq_of_lt, arith, pow_pos, pow_mono, eq-eqb, ne_eqb, eqb-true}
use native.Mathlib.Decide.{ℕ_discrete}
use lib.Bits.{bit_xor, xor_comm, xor_self, xor_assoc, xor_zero_l, xor_zero_r}
use lib.Pow.{pow-lt}
use borrow.Author.Tests.{eqb-false}
use Rattle.algebra.specs.Field.{FieldData, FieldLaws, size, product}
use Rattle.algebra.specs.Codes.{bit_of, code_sum, trace, Dual}
use Rattle.algebra.proofs.Digits.{xor_sum, place, bit_b, one_bit, packed_bits, packed_bit, packed_lt}
use Rattle.algebra.proofs.Theory.{field_theory}
use Rattle.algebra.proofs.Total.{product_below, product_dist_r}
use Rattle.field.specs.Signatures.{combined, signature}

module _ (m : FieldData) (l : FieldLaws m) where
  pub sum_same : (n : ℕ) (f g : ℕ → ℕ) → ((i : ℕ) → i < n → f i ≡ g i) → code_sum m n f ≡ code_sum m n g
  sum_same zero f g h = refl
  sum_same (suc n) f g h = ap₂ bit_xor (h n (omega arith)) (sum_same n f g (λ i k. h i (omega arith)))

  sum_xors : (n : ℕ) (f : ℕ → ℕ) → code_sum m n f ≡ xor_sum n f
  sum_xors zero f = refl
  sum_xors (suc n) f = ap (bit_xor (f n)) (sum_xors n f)

  four : (a b c d : ℕ) → bit_xor (bit_xor a b) (bit_xor c d) ≡ bit_xor (bit_xor a c) (bit_xor b d)
  four a b c d = simp (xor_assoc) (ap (bit_xor a) (sym (xor_assoc b c d) ∙ ap (λ x. bit_xor x d) (xor_comm b c) ∙ xor_assoc c b d))

  sum_adds : (n : ℕ) (f g : ℕ → ℕ) → code_sum m n (λ i. bit_xor (f i) (g i)) ≡ bit_xor (code_sum m n f) (code_sum m n g)
  sum_adds zero f g = refl
  sum_adds (suc n) f g = ap (bit_xor (bit_xor (f n) (g n))) (sum_adds n f g) ∙ four (f n) (g n) (code_sum m n f) (code_sum m n g)

  -- a map that takes sums of codes to sums
  abbrev pub Additive : (ℕ → ℕ) → Type 0
  Additive f = (a b : ℕ) → a < size m → b < size m → f (bit_xor a b) ≡ bit_xor (f a) (f b)

  module _ (f : ℕ → ℕ) (additive : Additive f) where
    at_zero : f 0 ≡ 0
    at_zero = let z : 0 < size m = pow_pos m.width in additive 0 0 z z ∙ xor_self (f 0)

    at_place : (b : Bool) (n : ℕ) → f (place b n) ≡ cond b (f (2 ^ n)) 0
    at_place true n = refl
    at_place false n = at_zero

    by_digits : (x n : ℕ) → n ≤ m.width → f (x % 2 ^ n) ≡ code_sum m n (λ i. cond (eqb (bit_of x i) 1) (f (2 ^ i)) 0)
    by_digits x zero h = ap f (omega arith) ∙ at_zero
    by_digits x (suc n) h =
        let low : x % 2 ^ n < size m = omega (arith, mod-lt x (pow_pos n), pow_mono {i = n} {j = m.width} (omega arith)) in
        let high : place (bit_b x n) n < size m = fits (bit_b x n) (omega (arith, pow-lt {i = n} {j = m.width} (omega arith))) (pow_pos m.width) in
        ap f (sym (packed_bits x (suc n)) ∙ ap (bit_xor (place (bit_b x n) n)) (packed_bits x n)) ∙ additive (place (bit_b x n) n) (x % 2 ^ n) high low
        ∙ ap₂ bit_xor (at_place (bit_b x n) n ∙ ap (λ b. cond b (f (2 ^ n)) 0) (sym (one_bit x n))) (by_digits x n (omega arith))
      where
        fits : (b : Bool) → 2 ^ n < size m → 0 < size m → place b n < size m
        fits true h z = h
        fits false h z = z

    -- such a map is the sum of its values at the one bits
    pub by_bits : (columns : List ℕ) → ((i : ℕ) → i < m.width → get_or columns i 0 ≡ f (2 ^ i)) → (x : ℕ) → x < size m → combined m columns x ≡ f x
    by_bits columns h x b =
        sum_same m.width _ _ (λ i k. ap (λ v. cond (eqb (bit_of x i) 1) v 0) (h i k))
        ∙ sym (by_digits x m.width (omega arith)) ∙ ap f (mod-eq_of_lt b)

  pub trace_adds : Additive (trace m)
  trace_adds = (field_theory m l).traces.additive

  -- whether the trace of d·2^j is one
  abbrev told : ℕ → ℕ → Bool
  told d j = eqb (trace m (product m d (2 ^ j))) m.one

  trace_values : (x : ℕ) → x < size m → (trace m x ≡ 0) ⊎ (trace m x ≡ m.one)
  trace_values = (field_theory m l).traces.values

  place_adds : (p s t : ℕ) → (s ≡ 0) ⊎ (s ≡ m.one) → (t ≡ 0) ⊎ (t ≡ m.one)
      → cond (eqb (bit_xor s t) m.one) p 0 ≡ bit_xor (cond (eqb s m.one) p 0) (cond (eqb t m.one) p 0)
  place_adds p s t u v = go u v
    where
      off : eqb 0 m.one ≡ false
      off = ne_eqb 0 m.one (λ e. l.one_is_not_zero (sym e))

      on : eqb m.one m.one ≡ true
      on = eq-eqb m.one m.one refl

      at : ℕ → ℕ
      at x = cond (eqb x m.one) p 0

      go : (s ≡ 0) ⊎ (s ≡ m.one) → (t ≡ 0) ⊎ (t ≡ m.one) → cond (eqb (bit_xor s t) m.one) p 0 ≡ bit_xor (cond (eqb s m.one) p 0) (cond (eqb t m.one) p 0)
      go (inl e) (inl f) = rw (e, f, off) refl
      go (inl e) (inr f) = rw (e, f, xor_zero_l m.one, on, off) (sym (xor_zero_l p))
      go (inr e) (inl f) = rw (e, f, xor_zero_r m.one, on, off) (sym (xor_zero_r p))
      go (inr e) (inr f) = rw (e, f, xor_self m.one, on, off) (sym (xor_self p))

  pub signature_adds : Additive (signature m)
  signature_adds a b ha hb =
      sum_same m.width _ _ (λ j k.
      ap (λ t. cond (eqb t m.one) (2 ^ j) 0) (ap (trace m) (product_dist_r m l a b (2 ^ j)) ∙ trace_adds (product m a (2 ^ j)) (product m b (2 ^ j)) (product_below m l a (2 ^ j)) (product_below m l b (2 ^ j)))
      ∙ place_adds (2 ^ j) (trace m (product m a (2 ^ j))) (trace m (product m b (2 ^ j))) (trace_values (product m a (2 ^ j)) (product_below m l a (2 ^ j))) (trace_values (product m b (2 ^ j)) (product_below m l b (2 ^ j))))
      ∙ sum_adds m.width (λ j. cond (told a j) (2 ^ j) 0) (λ j. cond (told b j) (2 ^ j) 0)

  pub signature_below : (d : ℕ) → signature m d < size m
  signature_below d = subst (λ s. s < size m) (sym (sum_xors m.width (λ j. place (told d j) j))) (packed_lt (told d) m.width)

  signature_bit : (d j : ℕ) → j < m.width → bit_b (signature m d) j ≡ told d j
  signature_bit d j h = ap (λ s. bit_b s j) (sum_xors m.width (λ j. place (told d j) j)) ∙ packed_bit (told d) m.width j h

  -- a code with the signature of the dual of bit i is that dual
  pub dual_by_signature : (i d e : ℕ) → Dual m i d → e < size m → signature m e ≡ signature m d → Dual m i e
  dual_by_signature i d e dual h same =
      let as_told : (j : ℕ) → j < m.width → told e j ≡ told d j = λ j k. sym (signature_bit e j k) ∙ ap (λ s. bit_b s j) same ∙ signature_bit d j k in
      record {
        index = dual.index;
        code = h;
        own = eqb-true _ _ (as_told i dual.index ∙ eq-eqb _ _ dual.own);
        others = λ j k n. apart (trace_values (product m e (2 ^ j)) (product_below m l e (2 ^ j)))
            (eqb-false _ _ (as_told j k ∙ ne_eqb _ _ (λ o. l.one_is_not_zero (sym o ∙ dual.others j k n))));
      }
    where
      apart : {t : ℕ} → (t ≡ 0) ⊎ (t ≡ m.one) → (t ≡ m.one → ⊥) → t ≡ 0
      apart (inl z) n = z
      apart (inr o) n = absurd (n o)

  sum_one : (i n : ℕ) (v : ℕ → Bool) → i < n → v i ≡ true → ((j : ℕ) → j < n → (j ≡ i → ⊥) → v j ≡ false) → xor_sum n (λ j. place (v j) j) ≡ 2 ^ i
  sum_one i zero v h t f = absurd (omega arith)
  sum_one i (suc n) v h t f =
      elim (ℕ_discrete n i) [
        | yes e ↦ ap₂ bit_xor (ap (λ b. place b n) (ap v e ∙ t)) (none n (λ j k. f j (omega arith) (λ q. absurd (omega arith)))) ∙ xor_zero_r (2 ^ n) ∙ ap (λ z. 2 ^ z) e
        | no d ↦ ap₂ bit_xor (ap (λ b. place b n) (f n (omega arith) d)) (sum_one i n v (omega arith) t (λ j k. f j (omega arith))) ∙ xor_zero_l (2 ^ i)
      ]
    where
      none : (k : ℕ) → ((j : ℕ) → j < k → v j ≡ false) → xor_sum k (λ j. place (v j) j) ≡ 0
      none zero h = refl
      none (suc k) h = ap₂ bit_xor (ap (λ b. place b k) (h k (omega arith))) (none k (λ j q. h j (omega arith)))

  -- the signature of the dual of bit i is 2^i
  pub signature_of_dual : (i d : ℕ) → Dual m i d → signature m d ≡ 2 ^ i
  signature_of_dual i d dual =
      sum_xors m.width (λ j. place (told d j) j)
      ∙ sum_one i m.width (told d) dual.index (eq-eqb _ _ dual.own) (λ j k n. ne_eqb _ _ (λ o. l.one_is_not_zero (sym o ∙ dual.others j k n)))
