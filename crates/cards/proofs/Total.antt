-- A field with its product taken at all numbers is the same field. Assumes nothing.
use Rattle.std.proofs.Common.{◌≡◌, ℕ, zero, suc, ◌%◌, ◌^◌, ◌<◌, List, [], ◌∷◌, ◌++◌, sym, refl, ap, ◌∙◌, ap₂, mod-lt, mod-eq_of_lt, pow_pos}
use lib.Bits.{bit_xor}
use Rattle.algebra.specs.Codes.{power, code_ops, trace, Dual, row_power, value_at, Input}
use Rattle.algebra.specs.Field.{FieldData, FieldLaws, size, product}
use Rattle.algebra.specs.Ops.{sum_of, bit_factor, at_row}
use Rattle.algebra.specs.Terms as A
use Rattle.algebra.proofs.Squares.{power_below}
use Rattle.algebra.proofs.Total.{product_below, product_comm, product_assoc, product_dist, product_one, product_inverse}
use Rattle.terms.specs.declared.Term.{Term}
use Rattle.convert.proofs.Plain.{plain}
use Rattle.cards.specs.Sums.{bit_sum}

abbrev pub total : FieldData → FieldData
total m = record { width = m.width; one = m.one; times = product m }

pub plain_push : {M : Type 0} (ss : List (Term M)) (t : Term M) → plain (ss ++ (t ∷ [])) ≡ plain ss ++ (record { code = t.code; key = t.mono } ∷ [])
plain_push [] t = refl
plain_push {M} (s ∷ ss) t = ap (λ (z : List (A.Term ℕ M)). record { code = s.code; key = s.mono } ∷ z) (plain_push ss t)

module _ (m : FieldData) (l : FieldLaws m) where
  pub total_laws : FieldLaws (total m)
  total_laws = record {
    narrow = l.narrow;
    wide = l.wide;
    one_below = l.one_below;
    one_is_not_zero = l.one_is_not_zero;
    below = λ a b _ _. product_below m l a b;
    comm = λ a b _ _. product_comm m l a b;
    assoc = λ a b c _ _ _. product_assoc m l a b c;
    dist = λ a b c _ _ _. product_dist m l a b c;
    unit = λ a h. product_one m l a h;
    inverse = λ a h nz. product_inverse m l a h nz;
  }

  at_codes : (a b : ℕ) → a < size m → b < size m → product m a b ≡ m.times a b
  at_codes a b h k = ap₂ m.times (mod-eq_of_lt h) (mod-eq_of_lt k)

  again : (a b : ℕ) → product (total m) a b ≡ product m a b
  again a b = at_codes (a % size m) (b % size m) (mod-lt a (pow_pos m.width)) (mod-lt b (pow_pos m.width))

  pub power_same : (a n : ℕ) → a < size m → power (total m) a n ≡ power m a n
  power_same a zero h = refl
  power_same a (suc n) h = ap (product m a) (power_same a n h) ∙ at_codes a (power m a n) h (power_below m l a n h)

  sum_same : (n : ℕ) (f g : ℕ → ℕ) → ((j : ℕ) → f j ≡ g j) → sum_of (code_ops (total m)) n f ≡ sum_of (code_ops m) n g
  sum_same zero f g e = refl
  sum_same (suc n) f g e = ap₂ bit_xor (e n) (sum_same n f g e)

  trace_same : (t : ℕ) → trace (total m) t ≡ trace m t
  trace_same t = sum_same m.width (λ j. power (total m) (t % size m) (2 ^ j)) (λ j. power m (t % size m) (2 ^ j)) (λ j. power_same (t % size m) (2 ^ j) (mod-lt t (pow_pos m.width)))

  pub dual_total : (i δ : ℕ) → Dual m i δ → Dual (total m) i δ
  dual_total i δ h = record {
    index = h.index;
    code = h.code;
    own = trace_same (product (total m) δ (2 ^ i)) ∙ ap (trace m) (again δ (2 ^ i)) ∙ h.own;
    others = λ j k n. trace_same (product (total m) δ (2 ^ j)) ∙ ap (trace m) (again δ (2 ^ j)) ∙ h.others j k n;
  }

  row_below : (r xs : List ℕ) (n : ℕ) → Input m n xs → row_power m r xs < size m
  row_below [] xs n u = l.one_below
  row_below (e ∷ es) [] n u = l.one_below
  row_below (e ∷ es) (x ∷ xs) zero u = absurd u
  row_below (e ∷ es) (x ∷ xs) (suc n) u = l.below (power m x e) (row_power m es xs) (power_below m l x e u.0) (row_below es xs n u.1)

  row_same : (r xs : List ℕ) (n : ℕ) → Input m n xs → row_power (total m) r xs ≡ row_power m r xs
  row_same [] xs n u = refl
  row_same (e ∷ es) [] n u = refl
  row_same (e ∷ es) (x ∷ xs) zero u = absurd u
  row_same (e ∷ es) (x ∷ xs) (suc n) u =
      ap₂ (product m) (power_same x e u.0) (row_same es xs n u.1) ∙ at_codes (power m x e) (row_power m es xs) (power_below m l x e u.0) (row_below es xs n u.1)

  pub value_same : (ts : List (A.Term ℕ (List ℕ))) (xs : List ℕ) (n : ℕ) → A.All (λ t. t.code < size m) ts → Input m n xs → value_at (total m) ts xs ≡ value_at m ts xs
  value_same [] xs n h u = refl
  value_same (t ∷ ts) xs n h u =
      ap₂ bit_xor (ap (product m t.code) (row_same t.key xs n u) ∙ at_codes t.code (row_power m t.key xs) h.0 (row_below t.key xs n u)) (value_same ts xs n h.1 u)

  pub sum_is : (w δ n : ℕ) → δ < size m → plain (bit_sum m w δ n) ≡ bit_factor (code_ops (total m)) 3 w δ n
  sum_is w δ zero h = refl
  sum_is w δ (suc n) h =
      plain_push (bit_sum m w δ n) (record { code = power m δ (2 ^ n); mono = at_row 3 w (2 ^ n) })
      ∙ ap₂ (λ (z : List (A.Term ℕ (List ℕ))) (c : ℕ). z ++ (record { code = c; key = at_row 3 w (2 ^ n) } ∷ [])) (sum_is w δ n h) (sym (power_same δ (2 ^ n) h))
