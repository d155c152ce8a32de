-- What a working that ends has made is the card. Assumes nothing.
use Rattle.std.proofs.Common.{◌≡◌, ℕ, zero, suc, ◌+◌, ◌-◌, ◌*◌, ◌/◌, ◌%◌, ◌^◌, ◌<◌, ◌≤◌, Bool, true, false, cond, eqb, ltb, leb, ◌⊎◌, List, [], ◌∷◌, length, take, Ok, Err, sym, refl, ap, ◌∙◌, subst, ap₂, subst₂, inl, inr, ⊎_elim, mul-le-mul_right, mod-lt, div-lt_iff_lt-mul, arith, pow_pos}
use native.Mathlib.Decide.{dec_lt}
use lib.Bits.{bit_xor}
use Rattle.std.proofs.lemmas.Bool.{cases_Bool, cond-true, cond-false, cond_both, ltb-true, ltb-false, lt-ltb, le-ltb, le-leb, leb-true, and_parts, and_from, eqb-true, eqb-false, true≢false}
use Rattle.algebra.specs.Codes.{code_ops, power, row_power, value_at, CardRow, Input, Dual}
use Rattle.algebra.specs.Field.{FieldData, FieldLaws, size, product}
use Rattle.algebra.specs.Ops.{Ops, red, row_mul, unit_row, bit_factor, bit_factors_of, held_of}
use Rattle.algebra.specs.Terms as A
use Rattle.algebra.specs.Theorems.{code_xor, card_of, IsCardOf, all_ones}
use Rattle.algebra.specs.Words.{Row, RowLess}
use Rattle.algebra.specs.Working.{table_converted}
use Rattle.algebra.proofs.Products.{red_low}
use Rattle.algebra.proofs.Rows.{row_order}
use Rattle.algebra.proofs.Theory.{field_theory}
use Rattle.algebra.proofs.Worked.{card_worked}
use Rattle.terms.specs.Exps.{capped, joined, tops_for}
use Rattle.terms.specs.Numbers.{lex, paired, inside}
use Rattle.terms.specs.Terms.{Under, Falling, Nonzero, Codes, Monos, value}
use Rattle.terms.specs.declared.Term.{Term}
use Rattle.terms.specs.declared.nets.NetSet.{NetSet}
use Rattle.terms.specs.BothKinds.{exp_laws}
use Rattle.terms.specs.NumbersLemmas.{joined_capped}
use Rattle.convert.specs.Convert.{chosen, Converted, finished, stopped, Answered}
use Rattle.terms.specs.Sets.{holds}
use Rattle.terms.specs.Values.{value_under, bit_at}
use Rattle.convert.specs.declared.FullTable.{FullTable}
use Rattle.fault.specs.declared.Fault.{Fault}
use Rattle.convert.proofs.Alike.{other, other_laws, converting_alike}
use Rattle.convert.proofs.Enough.{converting_ends}
use Rattle.convert.proofs.More.{more_rows}
use Rattle.convert.proofs.Plain.{plain, plains}
use Rattle.convert.proofs.Steps.{monos_append}
use Rattle.convert.proofs.Value.{Z, converting_table}
use Rattle.cards.specs.Law.{IsInput, card_value, BitTerms, CardOf}
use Rattle.cards.specs.Sums.{bit_sum, card_kind}
use Rattle.cards.specs.Working.{bit_factors, card_working, card_fault, CardAnswered}
use Rattle.cards.proofs.Blocks.{row_own}
use Rattle.cards.proofs.Counts.{rows_counted}
use Rattle.cards.proofs.Held.{held_bits, value_held}
use Rattle.cards.proofs.Total.{total, total_laws, dual_total, value_same, sum_is}

-- the order of rows, and their product
lex_less : (a b : List ℕ) → lex a b ≡ true → RowLess a b
lex_less [] [] e = absurd (true≢false (sym e))
lex_less [] (b ∷ bs) e = tt
lex_less (a ∷ aa) [] e = absurd (true≢false (sym e))
lex_less (a ∷ aa) (b ∷ bs) e =
    ⊎_elim
    (λ l. inl (ltb-true a b l))
    (λ l. ⊎_elim
    (λ g. absurd (true≢false (sym e ∙ cond-false (ltb a b) true (cond (ltb b a) false (lex aa bs)) l ∙ cond-true (ltb b a) false (lex aa bs) g)))
    (λ g. inr (
      let x : b ≤ a = ltb-false a b l in let y : a ≤ b = ltb-false b a g in omega arith,
      lex_less aa bs (sym (cond-false (ltb a b) true (cond (ltb b a) false (lex aa bs)) l ∙ cond-false (ltb b a) false (lex aa bs) g) ∙ e),
    ))
    (cases_Bool (ltb b a)))
    (cases_Bool (ltb a b))

-- of exponents up to q − 1, the product is the sum, less q − 1 where it is above
joined_red : (q a b : ℕ) → 0 < q → a ≤ q - 1 → b ≤ q - 1 → joined (q - 1) a b ≡ red q (a + b)
joined_red q a b h u v = joined_capped (q - 1) a b u v ∙ go (dec_lt (a + b) q)
  where
    go : (d : Dec (a + b < q)) → capped (q - 1) a b ≡ cond (A.dec_b d) (a + b) (a + b - (q - 1))
    go (yes l) = cond-false (ltb (q - 1) (a + b)) (a + b - (q - 1)) (a + b) (le-ltb (q - 1) (a + b) (omega arith))
    go (no n) = cond-true (ltb (q - 1) (a + b)) (a + b - (q - 1)) (a + b) (lt-ltb (q - 1) (a + b) (omega arith))

-- and that of exponents 0 is 0
joined_zero : (q a b : ℕ) → 0 < q → a ≤ 0 → b ≤ 0 → joined 0 a b ≡ red q (a + b)
joined_zero q a b h u v =
    let x : a ≡ 0 = omega arith in
    let y : b ≡ 0 = omega arith in
    subst₂ (λ (c d : ℕ). joined 0 c d ≡ red q (c + d)) (sym x) (sym y) (sym (red_low q 0 h))

pub rows_product : (q : ℕ) → 0 < q → (ls r s : List ℕ) → A.All (λ l. (l ≡ 0) ⊎ (l ≡ q - 1)) ls → inside ls r ≡ true → inside ls s ≡ true → paired joined ls r s ≡ row_mul q r s
rows_product q h [] [] s a u v = refl
rows_product q h [] (e ∷ r) s a u v = absurd (true≢false (sym u))
rows_product q h (l ∷ ls) [] s a u v = refl
rows_product q h (l ∷ ls) (e ∷ r) [] a u v = refl
rows_product q h (l ∷ ls) (e ∷ r) (f ∷ s) a u v =
    let x = and_parts (leb e l) (inside ls r) u in
    let y = and_parts (leb f l) (inside ls s) v in
    ap₂ ◌∷◌ (at a.0 (leb-true e l x.0) (leb-true f l y.0)) (rows_product q h ls r s a.1 x.1 y.1)
  where
    at : (l ≡ 0) ⊎ (l ≡ q - 1) → e ≤ l → f ≤ l → joined l e f ≡ red q (e + f)
    at (inl z) i j = subst (λ (t : ℕ). joined t e f ≡ red q (e + f)) (sym z) (joined_zero q e f h (omega arith) (omega arith))
    at (inr z) i j = subst (λ (t : ℕ). joined t e f ≡ red q (e + f)) (sym z) (joined_red q e f h (omega arith) (omega arith))

-- the factors of the places held
module _ (C : Ops ℕ) (k : ℕ) (d : ℕ → ℕ) (held : ℕ → Bool) (f : ℕ → List (Term (List ℕ))) (places : ℕ)
    (each : (p : ℕ) → p < places → plain (f p) ≡ bit_factor C 3 (p / k) (d (p % k)) k) where
  chosen_bits : (i n : ℕ) → i + n ≤ places → plains (chosen held f i n) ≡ bit_factors_of C k d 3 (held_bits k held i n)
  chosen_bits i zero h = refl
  chosen_bits i (suc n) h =
      ⊎_elim
      (λ b. ap plains (cond-true (held i) (f i ∷ chosen held f (suc i) n) (chosen held f (suc i) n) b)
      ∙ ap₂ ◌∷◌ (each i (omega arith)) (chosen_bits (suc i) n (omega arith))
      ∙ sym (ap (bit_factors_of C k d 3) (cond-true (held i) ((i / k, i % k) ∷ held_bits k held (suc i) n) (held_bits k held (suc i) n) b)))
      (λ b. ap plains (cond-false (held i) (f i ∷ chosen held f (suc i) n) (chosen held f (suc i) n) b)
      ∙ chosen_bits (suc i) n (omega arith)
      ∙ sym (ap (bit_factors_of C k d 3) (cond-false (held i) ((i / k, i % k) ∷ held_bits k held (suc i) n) (held_bits k held (suc i) n) b)))
      (cases_Bool (held i))

bits_within : (k : ℕ) (held : ℕ → Bool) → 0 < k → (i n : ℕ) → i + n ≤ 3 * k → A.All (λ b. (b.0 < 3) × (b.1 < k)) (held_bits k held i n)
bits_within k held h i zero l = tt
bits_within k held h i (suc n) l =
    cond_both (held i) ((i / k, i % k) ∷ held_bits k held (suc i) n) (held_bits k held (suc i) n) (A.All (λ b. (b.0 < 3) × (b.1 < k)))
    (λ _. (((div-lt_iff_lt-mul h).1 (omega arith), mod-lt i h), bits_within k held h (suc i) n (omega arith)))
    (λ _. bits_within k held h (suc i) n (omega arith))

-- ---- lists of terms as the mathematics has them
pub value_plain : (m : FieldData) (ts : List (Term (List ℕ))) (xs : List ℕ) → card_value m ts xs ≡ value_at m (plain ts) xs
value_plain m [] xs = refl
value_plain m (t ∷ ts) xs = ap (bit_xor (m.times t.code (row_power m t.mono xs))) (value_plain m ts xs)

pub held_plain : {S : Type 0} (m : FieldData) (on : S → Bool) (ss : List (Term S)) → value (λ c s. cond (on s) c 0) ss ≡ held_of (code_ops m) on (plain ss)
held_plain m on [] = refl
held_plain m on (s ∷ ss) = ap (bit_xor (cond (on s.mono) s.code 0)) (held_plain m on ss)

pub codes_plain : {S : Type 0} (P : ℕ → Type 0) (ts : List (Term S)) → Codes P ts → A.All (λ t. P t.code) (plain ts)
codes_plain P [] u = tt
codes_plain P (t ∷ ts) u = (u.0, codes_plain P ts u.1)

falling_plain : (m : FieldData) (n : ℕ) (ts : List (Term (List ℕ))) → Falling (card_kind m n) ts → A.Falling RowLess (plain ts)
falling_plain m n [] u = tt
falling_plain m n (t ∷ ts) u = (under ts u.0, falling_plain m n ts u.1)
  where
    under : (ss : List (Term (List ℕ))) → Under (card_kind m n) t.mono ss → A.All (λ s. RowLess s.key t.mono) (plain ss)
    under [] v = tt
    under (s ∷ ss) v = (lex_less s.mono t.mono v.0, under ss v.1)

back : {M : Type 0} → List (A.Term ℕ M) → List (Term M)
back [] = []
back (t ∷ ts) = record { code = t.code; mono = t.key } ∷ back ts

back_plain : {M : Type 0} (ts : List (Term M)) → back (plain ts) ≡ ts
unfolding back
back_plain [] = refl
back_plain (t ∷ ts) = ap (λ z. t ∷ z) (back_plain ts)

-- ---- rows and inputs of n words
pub all_limits : (P : ℕ → Type 0) (q n : ℕ) → P (q - 1) → P 0 → A.All P (tops_for q n)
all_limits P q n h z = (cond_both (ltb 0 n) (q - 1) 0 P (λ _. h) (λ _. z), (cond_both (ltb 1 n) (q - 1) 0 P (λ _. h) (λ _. z), (cond_both (ltb 2 n) (q - 1) 0 P (λ _. h) (λ _. z), tt)))

inside_row : (q : ℕ) (ls r : List ℕ) → A.All (λ l. l < q) ls → inside ls r ≡ true → Row q (length ls) r
inside_row q [] [] a h = tt
inside_row q [] (e ∷ r) a h = absurd (true≢false (sym h))
inside_row q (l ∷ ls) [] a h = absurd (true≢false (sym h))
inside_row q (l ∷ ls) (e ∷ r) a h =
    let p = and_parts (leb e l) (inside ls r) h in
    let u : e ≤ l = leb-true e l p.0 in
    let v : l < q = a.0 in
    (omega arith, inside_row q ls r a.1 p.1)

pub own_row : (m : FieldData) (n : ℕ) (r : List ℕ) → (card_kind m n).own r ≡ true → Row (size m) 3 r
own_row m n r h =
    let q = size m in
    let z : 0 < q = pow_pos m.width in
    inside_row q (tops_for q n) r (all_limits (λ l. l < q) q n (omega arith) z) h

-- the words whose largest exponent is 0 made 0
cut : List ℕ → List ℕ → List ℕ
cut [] xs = []
cut (l ∷ ls) [] = []
cut (l ∷ ls) (x ∷ xs) = cond (eqb l 0) 0 x ∷ cut ls xs

cut_power : (m : FieldData) (ls r xs : List ℕ) → inside ls r ≡ true → row_power m r xs ≡ row_power m r (cut ls xs)
unfolding cut
cut_power m [] [] xs h = refl
cut_power m [] (e ∷ r) xs h = absurd (true≢false (sym h))
cut_power m (l ∷ ls) [] xs h = refl
cut_power m (l ∷ ls) (e ∷ r) [] h = refl
cut_power m (l ∷ ls) (e ∷ r) (x ∷ xs) h =
    let p = and_parts (leb e l) (inside ls r) h in
    ap₂ m.times (same p) (cut_power m ls r xs p.1)
  where
    same : (leb e l ≡ true) × (inside ls r ≡ true) → power m x e ≡ power m (cond (eqb l 0) 0 x) e
    same p =
        ⊎_elim
        (λ b.
        let u : l ≡ 0 = eqb-true l 0 b in
        let v : e ≤ l = leb-true e l p.0 in
        let w : e ≡ 0 = omega arith in
        subst (λ (i : ℕ). power m x i ≡ power m (cond (eqb l 0) 0 x) i) (sym w) refl)
        (λ b. ap (λ (y : ℕ). power m y e) (sym (cond-false (eqb l 0) 0 x b)))
        (cases_Bool (eqb l 0))

cut_inside : (q : ℕ) (ls xs : List ℕ) → A.All (λ l. (l ≡ 0) ⊎ (l ≡ q - 1)) ls → Row q (length ls) xs → inside ls (cut ls xs) ≡ true
unfolding cut
cut_inside q [] [] a u = refl
cut_inside q [] (x ∷ xs) a u = absurd u
cut_inside q (l ∷ ls) [] a u = absurd u
cut_inside q (l ∷ ls) (x ∷ xs) a u =
    and_from (leb (cond (eqb l 0) 0 x) l) (inside ls (cut ls xs))
    (cond_both (eqb l 0) 0 x (λ (y : ℕ). leb y l ≡ true)
    (λ _. le-leb 0 l (omega arith))
    (λ b. le-leb x l (let v : x < q = u.0 in ⊎_elim (λ e. absurd (eqb-false l 0 b e)) (λ (e : l ≡ q - 1). let w : x ≤ l = omega arith in w) a.0)))
    (cut_inside q ls xs a.1 u.1)

value_cut : (m : FieldData) (ls : List ℕ) (ts : List (Term (List ℕ))) (xs : List ℕ) → Monos (λ r. inside ls r ≡ true) ts → card_value m ts xs ≡ card_value m ts (cut ls xs)
value_cut m ls [] xs u = refl
value_cut m ls (t ∷ ts) xs u = ap₂ (λ a b. bit_xor (m.times t.code a) b) (cut_power m ls t.mono xs u.0) (value_cut m ls ts xs u.1)

pub card_rows : (m : FieldData) (n : ℕ) (ts : List (Term (List ℕ))) → Codes (λ c. c < size m) ts → Nonzero ts → Monos (λ r. (card_kind m n).own r ≡ true) ts → A.All (CardRow m 3) (plain ts)
card_rows m n [] c z u = tt
card_rows m n (t ∷ ts) c z u = ((c.0, (λ e. let p : 0 < t.code = z.0 in omega arith), own_row m n t.mono u.0), card_rows m n ts c.1 z.1 u.1)

row_codes : (m : FieldData) (ts : List (Term (List ℕ))) → A.All (CardRow m 3) (plain ts) → Codes (λ c. c < size m) ts
row_codes m [] a = tt
row_codes m (t ∷ ts) a = (a.0.0, row_codes m ts a.1)

row_nonzero : (m : FieldData) (ts : List (Term (List ℕ))) → A.All (CardRow m 3) (plain ts) → Nonzero ts
row_nonzero m [] a = tt
row_nonzero m (t ∷ ts) a = (let p = a.0.1 in omega arith, row_nonzero m ts a.1)

codes_within : {S : Type 0} (m : FieldData) (bits : S → List (ℕ × ℕ)) → ((s : S) → A.All (λ b. (b.0 < 3) × (b.1 < m.width)) (bits s)) → (ss : List (Term S)) → Codes (λ c. c < size m) ss
    → A.All (λ t. (t.code < 2 ^ m.width) × A.All (λ b. (b.0 < 3) × (b.1 < m.width)) (bits t.key)) (plain ss)
codes_within m bits w [] h = tt
codes_within m bits w (s ∷ ss) h = ((h.0, w s.mono), codes_within m bits w ss h.1)

-- ---- own factors
pub sum_own : (m : FieldData) (n w δ : ℕ) → w < n → n ≤ 3 → (j : ℕ) → j ≤ m.width → Monos (λ r. (card_kind m n).own r ≡ true) (bit_sum m w δ j)
sum_own m n w δ h l zero u = tt
sum_own m n w δ h l (suc j) u = monos_append (λ r. (card_kind m n).own r ≡ true) (bit_sum m w δ j) _ (sum_own m n w δ h l j (omega arith)) (row_own m n w j h l u, tt)

pub chosen_all : {M : Type 0} (Q : List (Term M) → Type 0) (held : ℕ → Bool) (f : ℕ → List (Term M)) (places : ℕ) → ((p : ℕ) → p < places → Q (f p))
    → (i n : ℕ) → i + n ≤ places → A.All Q (chosen held f i n)
chosen_all Q held f places e i zero h = tt
chosen_all Q held f places e i (suc n) h =
    let rest = chosen_all Q held f places e (suc i) n (omega arith) in
    cond_both (held i) (f i ∷ chosen held f (suc i) n) (chosen held f (suc i) n) (A.All Q) (λ _. (e i (omega arith), rest)) (λ _. rest)

-- ---- the card
module _ (m : FieldData) (l : FieldLaws m) (n : ℕ) (few : n ≤ 3) (d : ℕ → ℕ) (duals : (i : ℕ) → i < m.width → Dual m i (d i)) where
  wp : 0 < m.width
  wp = let h = l.narrow in omega arith

  abbrev q : ℕ
  q = size m

  abbrev tops : List ℕ
  tops = tops_for q n

  tops_cases : A.All (λ x. (x ≡ 0) ⊎ (x ≡ q - 1)) tops
  tops_cases = all_limits (λ x. (x ≡ 0) ⊎ (x ≡ q - 1)) q n (inr refl) (inl refl)

  -- the product of rows of n words is that of the mathematics
  same_product : (r s : List ℕ) → (card_kind m n).own r ≡ true → (card_kind m n).own s ≡ true → (card_kind m n).times r s ≡ row_mul q r s
  same_product r s = rows_product q (pow_pos m.width) tops r s tops_cases

  abbrev Own : List ℕ → Type 0
  Own r = (card_kind m n).own r ≡ true

  factors_own : (s : NetSet) → A.All (Monos Own) (bit_factors m n d s)
  factors_own s =
      chosen_all (Monos Own) (holds s) (λ p. bit_sum m (p / m.width) (d (p % m.width)) m.width) (n * m.width)
      (λ p h. sum_own m n (p / m.width) (d (p % m.width)) ((div-lt_iff_lt-mul wp).1 h) few m.width (omega arith)) 0 (n * m.width) (omega arith)

  -- q^n rows suffice
  pub enough : (cap rows : ℕ) → q ^ n ≤ cap → q ^ n ≤ rows → (bits : List (Term NetSet))
      → (us : List (Term (List ℕ))) × (card_working m n d cap rows bits ≡ finished us) × Falling (card_kind m n) us × Monos Own us
  enough cap rows h r bits =
      converting_ends (card_kind m n) (exp_laws tops refl) Own (q ^ n) (rows_counted q n (pow_pos m.width) few) (product m) cap h rows r (bit_factors m n d) factors_own bits [] tt tt

  pub more : (cap cap' rows rows' : ℕ) → cap ≤ cap' → rows ≤ rows' → (bits : List (Term NetSet)) (us : List (Term (List ℕ)))
      → card_working m n d cap rows bits ≡ finished us → card_working m n d cap' rows' bits ≡ finished us
  more cap cap' rows rows' h r bits us e = more_rows (card_kind m n) NetSet (product m) cap cap' rows rows' h r (bit_factors m n d) bits [] us e

  -- what a working ends in falls, and its rows are rows of n words
  kept : (cap rows : ℕ) (bits : List (Term NetSet)) (us : List (Term (List ℕ))) → card_working m n d cap rows bits ≡ finished us → Falling (card_kind m n) us × Monos Own us
  kept cap rows bits us e =
      let x = enough (cap + q ^ n) (rows + q ^ n) (omega arith) (omega arith) bits in
      let y = more cap (cap + q ^ n) rows (rows + q ^ n) (omega arith) (omega arith) bits us e in
      let same : x.0 ≡ us = finished_is x.0 us (sym x.1 ∙ y) in
      (subst (Falling (card_kind m n)) same x.2, subst (Monos Own) same x.3)
    where
      finished_is : (a b : List (Term (List ℕ))) → ◌≡◌ {A = Converted (List ℕ)} (finished a) (finished b) → a ≡ b
      finished_is a b p = cc

  module _ (cap rows : ℕ) (bits : List (Term NetSet)) (terms : BitTerms m n bits) (us : List (Term (List ℕ))) (e : card_working m n d cap rows bits ≡ finished us) where
    abbrev places : ℕ
    places = n * m.width

    abbrev held : NetSet → List (ℕ × ℕ)
    held s = held_bits m.width (holds s) 0 places

    places_few : places ≤ 3 * m.width
    places_few = mul-le-mul_right m.width few

    made : IsCardOf (total m) held 3 (plain bits) (plain us)
    made =
        let C = code_ops (total m) in
        let k = card_kind m n in
        let laws = exp_laws tops refl in
        let e' = sym (converting_alike k laws (row_mul q) same_product (product m) cap rows (bit_factors m n d) factors_own bits []) ∙ e in
        let worked = converting_table (other k laws (row_mul q) same_product) (other_laws k laws (row_mul q) same_product) row_order lex_less C cap rows (bit_factors m n d) bits [] us e' in
        let each = (λ (p : ℕ) (h : p < places). sum_is m l (p / m.width) (d (p % m.width)) m.width (duals (p % m.width) (mod-lt p wp)).code) in
        let facts : Path (NetSet → List (List (A.Term ℕ (List ℕ)))) (λ s. plains (bit_factors m n d s)) (λ s. bit_factors_of C m.width d 3 (held s)) =
        (λ i s. chosen_bits C m.width d (holds s) (λ p. bit_sum m (p / m.width) (d (p % m.width)) m.width) places each 0 places (omega arith) i) in
        let is : plain us ≡ card_of (total m) row_order held d 3 (plain bits) =
        worked ∙ ap (λ (f : NetSet → List (List (A.Term ℕ (List ℕ)))). table_converted C code_xor Z row_order (row_mul q) (unit_row 3) f (plain bits) []) facts in
        subst (IsCardOf (total m) held 3 (plain bits)) (sym is)
        (card_worked (record { it = total m; laws = total_laws m l }) NetSet row_order held d 3 (λ i h. dual_total m l i (d i) (duals i h)) (plain bits)
        (codes_within m held (λ s. bits_within m.width (holds s) wp 0 places (let u = places_few in omega arith)) bits terms.codes))

    us_codes : Codes (λ c. c < q) us
    us_codes = row_codes m us made.rows

    us_rows : Monos Own us
    us_rows = (kept cap rows bits us e).1

    values : (xs : List ℕ) → IsInput m n xs → card_value m us xs ≡ value_under (bit_at m.width xs) bits
    values xs h =
        let i : Input m 3 xs = own_row m n xs h in
        value_plain m us xs ∙ sym (value_same m l (plain us) xs 3 (codes_plain (λ c. c < q) us us_codes) i) ∙ made.values xs i
        ∙ sym (held_plain (total m) (λ s. all_ones (held s) xs) bits) ∙ sym (value_held m.width places xs (let u = places_few in let w = l.wide in omega arith) bits terms.within)

    -- at any three words, as at those with the words past n made 0
    agree : (p : List (Term (List ℕ))) → Monos Own p → ((xs : List ℕ) → IsInput m n xs → card_value m p xs ≡ value_under (bit_at m.width xs) bits)
        → (xs : List ℕ) → Input m 3 xs → value_at m (plain p) xs ≡ value_at m (plain us) xs
    agree p o v xs i =
        let cuts : IsInput m n (cut tops xs) = cut_inside q tops xs tops_cases i in
        sym (value_plain m p xs) ∙ value_cut m tops p xs o ∙ v (cut tops xs) cuts ∙ sym (values (cut tops xs) cuts) ∙ sym (value_cut m tops us xs us_rows) ∙ value_plain m us xs

    pub card_of_lem : CardOf m n bits us
    card_of_lem = record {
      polynomial = record { codes = us_codes; nonzero = row_nonzero m us made.rows; rows = us_rows; falling = (kept cap rows bits us e).0 };
      values = values;
      only = λ p o v.
          let same : plain p ≡ plain us = (field_theory m l).only 3 (plain p) (plain us) (card_rows m n p o.codes o.nonzero o.rows) (falling_plain m n p o.falling) made.rows made.falling (agree p o.rows v) in
          sym (back_plain p) ∙ ap back same ∙ back_plain us;
    }

-- the whole answer, from that of the conversion
module _ (m : FieldData) (l : FieldLaws m) (n : ℕ) (few : n ≤ 3) (d : ℕ → ℕ) (duals : (i : ℕ) → i < m.width → Dual m i (d i)) (cap count : ℕ) (bits : List (Term NetSet)) (rows : List (Term (List ℕ))) where
  never : {B : Type 0} (us : List (Term (List ℕ))) (t : FullTable) → ◌≡◌ {A = Converted (List ℕ)} (finished us) (stopped t) → B
  never us t p = absurd (let z : ◌≡◌ {A = ℕ} 0 1 = cc in omega arith)

  pub answered_ok : (t : ℕ) → Answered (card_kind m n) (product m) cap count (bit_factors m n d) bits rows (Ok t) → CardAnswered m n cap count bits rows (Ok t)
  answered_ok t a = record {
    dual = d;
    duals = duals;
    worked = a;
    made = λ terms. card_of_lem m l n few d duals cap count bits terms (take t rows) a.0;
    enough = λ _ _. refl;
    more = λ cap' count' h r. more m l n few d duals cap cap' count count' h r bits;
  }

  pub answered_err : (t : FullTable) (e : Fault) → e ≡ card_fault t → Answered (card_kind m n) (product m) cap count (bit_factors m n d) bits rows (Err t) → CardAnswered m n cap count bits rows (Err e)
  answered_err t e f a = record {
    dual = d;
    duals = duals;
    worked = (t, a.0, f, a.1);
    made = λ _. tt;
    enough = λ h r. let x = enough m l n few d duals cap count h r bits in never x.0 t (sym x.1 ∙ a.0);
    more = λ cap' count' h r. more m l n few d duals cap cap' count count' h r bits;
  }
