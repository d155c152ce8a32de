-- The values of polynomials that are worked in nested form. Assumes nothing.
use Rattle.std.proofs.Common.{◌≡◌, ℕ, zero, suc, ◌-◌, ◌/◌, ◌%◌, ◌^◌, ◌<◌, Bool, true, false, cond, not, ◌&&◌, ◌||◌, eqb, ◌⊎◌, List, [], ◌∷◌, ◌++◌, get_or, sym, refl, ap, ◌∙◌, subst, ap₂, inl, inr, ⊎_elim, mod-lt, arith, pow_pos}
use lib.Bits.{bit_xor, xor_comm, xor_assoc, xor_zero_r, xor_lt}
use Rattle.std.proofs.lemmas.Bool.{cases_Bool, cond-true, cond-false, eqb-true, eqb-false}
use Rattle.algebra.specs.Codes.{bit_of, code_sum, power, row_power, Input, Dual}
use Rattle.algebra.specs.Field.{FieldData, FieldLaws, size, product}
use Rattle.algebra.specs.Ops.{row_mul, unit_row, at_row}
use Rattle.algebra.specs.Words.{Row}
use Rattle.algebra.proofs.Squares.{power_below}
use Rattle.algebra.proofs.Theory.{field_theory}
use Rattle.algebra.proofs.Total.{product_below, product_comm, product_assoc, product_dist, product_dist_r, product_one, product_zero, zero_product}
use Rattle.terms.specs.Additions.{done, adding}
use Rattle.terms.specs.Exps.{tops_for}
use Rattle.terms.specs.Kind.{KindModel, KindLaws}
use Rattle.terms.specs.Sets.{holds}
use Rattle.terms.specs.Terms.{added, Codes, Monos, value}
use Rattle.terms.specs.Values.{every, bit_at}
use Rattle.terms.specs.declared.Term.{Term}
use Rattle.terms.specs.declared.nets.NetSet.{NetSet}
use Rattle.terms.proofs.Additions.{adding_first, done_same}
use Rattle.terms.proofs.Laws.{added_codes, value_added}
use Rattle.convert.specs.Products.{products, all_products}
use Rattle.cards.specs.Law.{IsInput, card_value}
use Rattle.cards.specs.Nested.{on_below, value_below}
use Rattle.cards.specs.Sums.{bit_term, bit_sum, card_kind}
use Rattle.cards.proofs.CardLaw.{rows_product, all_limits, own_row}
use Rattle.cards.proofs.Total.{total, total_laws, power_same, dual_total}

-- ---- sums over terms
pub value_append : {M : Type 0} (f : ℕ → M → ℕ) (ss ts : List (Term M)) → value f (ss ++ ts) ≡ bit_xor (value f ss) (value f ts)
value_append f [] ts = refl
value_append f (s ∷ ss) ts = ap (bit_xor (f s.code s.mono)) (value_append f ss ts) ∙ sym (xor_assoc (f s.code s.mono) (value f ss) (value f ts))

-- ---- the terms under a net, and those that lack it
module _ (v : ℕ → Bool) (p : ℕ) where
  below_with : (s : NetSet) → holds s p ≡ true → on_below (suc p) v s ≡ (v p && on_below p v s)
  unfolding every
  below_with s h = ap (λ (b : Bool). (not b || v p) && on_below p v s) h

  below_without : (s : NetSet) → holds s p ≡ false → on_below (suc p) v s ≡ on_below p v s
  unfolding every
  below_without s h = ap (λ (b : Bool). (not b || v p) && on_below p v s) h

  pub value_without : (ts : List (Term NetSet)) → Monos (λ s. holds s p ≡ false) ts → value_below (suc p) v ts ≡ value_below p v ts
  value_without [] u = refl
  value_without (t ∷ ts) u = ap₂ (λ (b : Bool) (x : ℕ). bit_xor (cond b t.code 0) x) (below_without t.mono u.0) (value_without ts u.1)

  pub value_off : (ts : List (Term NetSet)) → Monos (λ s. holds s p ≡ true) ts → v p ≡ false → value_below (suc p) v ts ≡ 0
  value_off [] u e = refl
  value_off (t ∷ ts) u e = ap₂ (λ (b : Bool) (x : ℕ). bit_xor (cond b t.code 0) x) (below_with t.mono u.0 ∙ ap (λ (b : Bool). b && on_below p v t.mono) e) (value_off ts u.1 e)

  pub value_on : (ts : List (Term NetSet)) → Monos (λ s. holds s p ≡ true) ts → v p ≡ true → value_below (suc p) v ts ≡ value_below p v ts
  value_on [] u e = refl
  value_on (t ∷ ts) u e = ap₂ (λ (b : Bool) (x : ℕ). bit_xor (cond b t.code 0) x) (below_with t.mono u.0 ∙ ap (λ (b : Bool). b && on_below p v t.mono) e) (value_on ts u.1 e)

module _ (m : FieldData) (l : FieldLaws m) where
  abbrev q : ℕ
  q = size m

  -- the field with its product taken at all numbers
  abbrev t : FieldData
  t = total m

  four : (a b c d : ℕ) → product m (product m a b) (product m c d) ≡ product m (product m a c) (product m b d)
  four a b c d =
      product_assoc m l a b (product m c d)
      ∙ ap (product m a) (sym (product_assoc m l b c d) ∙ ap (λ x. product m x d) (product_comm m l b c) ∙ product_assoc m l c b d)
      ∙ sym (product_assoc m l a c (product m b d))

  -- the power of a product of rows is the product of their powers
  row_times : (n : ℕ) (r s xs : List ℕ) → Row q n r → Row q n s → Input m n xs → row_power t (row_mul q r s) xs ≡ product m (row_power t r xs) (row_power t s xs)
  row_times zero [] [] xs a b u = sym (product_one m l m.one l.one_below)
  row_times zero [] (f ∷ s) xs a b u = absurd b
  row_times zero (e ∷ r) s xs a b u = absurd a
  row_times (suc n) [] s xs a b u = absurd a
  row_times (suc n) (e ∷ r) [] xs a b u = absurd b
  row_times (suc n) (e ∷ r) (f ∷ s) [] a b u = absurd u
  row_times (suc n) (e ∷ r) (f ∷ s) (x ∷ xs) a b u =
      let T = (field_theory t (total_laws m l)).powers in
      ap₂ (product m) (T.fold x e f u.0 a.0 b.0 ∙ T.sum x e f u.0) (row_times n r s xs a.1 b.1 u.1)
      ∙ four (power t x e) (power t x f) (row_power t r xs) (row_power t s xs)

  pub unit_power : (n : ℕ) (xs : List ℕ) → row_power t (unit_row n) xs ≡ m.one
  unit_power zero xs = refl
  unit_power (suc n) [] = refl
  unit_power (suc n) (x ∷ xs) = ap (product m m.one) (unit_power n xs) ∙ product_one m l m.one l.one_below

  pub by_one : (a : ℕ) → a < q → product m a m.one ≡ a
  by_one a h = product_comm m l a m.one ∙ product_one m l a h

  at_power : (n w e : ℕ) (xs : List ℕ) → w < n → Input m n xs → row_power t (at_row n w e) xs ≡ power t (get_or xs w 0) e
  at_power zero w e xs h u = absurd (omega arith)
  at_power (suc n) w e [] h u = absurd u
  at_power (suc n) zero e (x ∷ xs) h u = ap (product m (power t x e)) (unit_power n xs) ∙ by_one (power t x e) (power_below t (total_laws m l) x e u.0)
  at_power (suc n) (suc w) e (x ∷ xs) h u =
      ap (product m m.one) (at_power n w e xs (omega arith) u.1) ∙ product_one m l (power t (get_or xs w 0) e) (power_below t (total_laws m l) (get_or xs w 0) e (word_below n w xs (omega arith) u.1))
    where
      word_below : (n w : ℕ) (xs : List ℕ) → w < n → Input m n xs → get_or xs w 0 < q
      word_below zero w xs h u = absurd (omega arith)
      word_below (suc n) w [] h u = absurd u
      word_below (suc n) zero (x ∷ xs) h u = u.0
      word_below (suc n) (suc w) (x ∷ xs) h u = word_below n w xs (omega arith) u.1

  -- the value of a polynomial, by the product at all numbers
  abbrev val : List ℕ → List (Term (List ℕ)) → ℕ
  val xs ts = card_value t ts xs

  -- additions add the values
  pub adding_value : (k : KindModel (List ℕ)) (L : KindLaws k) (xs : List ℕ) (cap : ℕ) (adds ts us : List (Term (List ℕ))) → Codes (λ c. c < q) adds → Codes (λ c. c < q) ts
      → adding k cap adds ts ≡ done us → (val xs us ≡ bit_xor (val xs adds) (val xs ts)) × Codes (λ c. c < q) us
  adding_value k L xs cap [] ts us a b e = (ap (val xs) (sym (done_same ts us e)), subst (Codes (λ c. c < q)) (done_same ts us e) b)
  adding_value k L xs cap (x ∷ adds) ts us a b e =
      let f = (λ (c : ℕ) (r : List ℕ). product m c (row_power t r xs)) in
      let next = added k x.code x.mono ts in
      let here = value_added (λ c. c < q) f (λ c d r _ _. product_dist_r m l c d (row_power t r xs)) k L x.code x.mono a.0 ts b in
      let kept = added_codes k L (λ c. c < q) x.code x.mono (λ c d h i. xor_lt m.width c d h i) a.0 ts b in
      let rest = adding_value k L xs cap adds next us a.1 kept (adding_first k cap x adds ts us e).1 in
      let y = f x.code x.mono in (
        rest.0 ∙ ap (bit_xor (val xs adds)) here ∙ sym (xor_assoc (val xs adds) y (val xs ts)) ∙ ap (λ (z : ℕ). bit_xor z (val xs ts)) (xor_comm (val xs adds) y),
        rest.1,
      )

  products_codes : (k : KindModel (List ℕ)) (c : ℕ) (r : List ℕ) (us : List (Term (List ℕ))) → Codes (λ c. c < q) (products k (product m) c r us)
  products_codes k c r [] = tt
  products_codes k c r (u ∷ us) = (product_below m l c u.code, products_codes k c r us)

  codes_append : (ss ts : List (Term (List ℕ))) → Codes (λ c. c < q) ss → Codes (λ c. c < q) ts → Codes (λ c. c < q) (ss ++ ts)
  codes_append [] ts a b = b
  codes_append (s ∷ ss) ts a b = (a.0, codes_append ss ts a.1 b)

  pub all_codes : (k : KindModel (List ℕ)) (ts us : List (Term (List ℕ))) → Codes (λ c. c < q) (all_products k (product m) ts us)
  all_codes k [] us = tt
  all_codes k (s ∷ ts) us = codes_append (products k (product m) s.code s.mono us) (all_products k (product m) ts us) (products_codes k s.code s.mono us) (all_codes k ts us)

  module _ (n : ℕ) (xs : List ℕ) (input : IsInput m n xs) where
    abbrev Own : List ℕ → Type 0
    Own r = (card_kind m n).own r ≡ true

    kind_times : (r s : List ℕ) → Own r → Own s → row_power t ((card_kind m n).times r s) xs ≡ product m (row_power t r xs) (row_power t s xs)
    kind_times r s a b =
        ap (λ (x : List ℕ). row_power t x xs) (rows_product q (pow_pos m.width) (tops_for q n) r s (all_limits (λ x. (x ≡ 0) ⊎ (x ≡ q - 1)) q n (inr refl) (inl refl)) a b)
        ∙ row_times 3 r s xs (own_row m n r a) (own_row m n s b) (own_row m n xs input)

    products_value : (c : ℕ) (r : List ℕ) → Own r → (us : List (Term (List ℕ))) → Monos Own us
        → val xs (products (card_kind m n) (product m) c r us) ≡ product m (product m c (row_power t r xs)) (val xs us)
    products_value c r h [] o = sym (product_zero m l (product m c (row_power t r xs)))
    products_value c r h (u ∷ us) o =
        let x = product m c (row_power t r xs) in
        ap₂ bit_xor
        (ap (product m (product m c u.code)) (kind_times r u.mono h o.0) ∙ four c u.code (row_power t r xs) (row_power t u.mono xs))
        (products_value c r h us o.1)
        ∙ sym (product_dist m l x (product m u.code (row_power t u.mono xs)) (val xs us))

    pub all_value : (ts us : List (Term (List ℕ))) → Monos Own ts → Monos Own us → val xs (all_products (card_kind m n) (product m) ts us) ≡ product m (val xs ts) (val xs us)
    all_value [] us h o = sym (zero_product m l (val xs us))
    all_value (s ∷ ts) us h o =
        value_append (λ c r. product m c (row_power t r xs)) (products (card_kind m n) (product m) s.code s.mono us) (all_products (card_kind m n) (product m) ts us)
        ∙ ap₂ bit_xor (products_value s.code s.mono h.0 us o) (all_value ts us h.1 o)
        ∙ sym (product_dist_r m l (product m s.code (row_power t s.mono xs)) (val xs ts) (val xs us))

    -- the sum of a bit is that bit
    sum_value : (w δ : ℕ) → w < 3 → (j : ℕ) → δ < q → val xs (bit_sum m w δ j) ≡ code_sum t j (λ i. product m (power t δ (2 ^ i)) (power t (get_or xs w 0) (2 ^ i)))
    sum_value w δ h zero d = refl
    sum_value w δ h (suc j) d =
        let f = (λ (c : ℕ) (r : List ℕ). product m c (row_power t r xs)) in
        let x = product m (power m δ (2 ^ j)) (row_power t (at_row 3 w (2 ^ j)) xs) in
        value_append f (bit_sum m w δ j) (bit_term m w δ j ∷ [])
        ∙ ap (bit_xor (val xs (bit_sum m w δ j))) (xor_zero_r x)
        ∙ xor_comm (val xs (bit_sum m w δ j)) x
        ∙ ap₂ bit_xor (ap₂ (product m) (sym (power_same m l δ (2 ^ j) d)) (at_power 3 w (2 ^ j) xs h (own_row m n xs input))) (sum_value w δ h j d)

    pub bit_value : (p δ : ℕ) → p / m.width < 3 → Dual m (p % m.width) δ → val xs (bit_sum m (p / m.width) δ m.width) ≡ cond (bit_at m.width xs p) m.one 0
    bit_value p δ h d =
        let w = p / m.width in
        let i = p % m.width in
        let a = get_or xs w 0 in
        let B = (field_theory t (total_laws m l)).bits i δ a d.index (dual_total m l i δ d) (word 3 w xs h (own_row m n xs input)) in
        sum_value w δ h m.width d.code
        ∙ ⊎_elim
        (λ (e : eqb (bit_of a i) 1 ≡ true). B.on (eqb-true (bit_of a i) 1 e) ∙ sym (cond-true (eqb (bit_of a i) 1) m.one 0 e))
        (λ (e : eqb (bit_of a i) 1 ≡ false).
        let no1 = eqb-false (bit_of a i) 1 e in
        let small : bit_of a i < 2 = mod-lt (a / 2 ^ i) (omega arith) in
        let z : bit_of a i ≡ 0 = omega (arith, no1, small) in
        B.off z ∙ sym (cond-false (eqb (bit_of a i) 1) m.one 0 e))
        (cases_Bool (eqb (bit_of a i) 1))
      where
        word : (n w : ℕ) (xs : List ℕ) → w < n → Input m n xs → get_or xs w 0 < q
        word zero w xs h u = absurd (omega arith)
        word (suc n) w [] h u = absurd u
        word (suc n) zero (x ∷ xs) h u = u.0
        word (suc n) (suc w) (x ∷ xs) h u = word n w xs (omega arith) u.1
