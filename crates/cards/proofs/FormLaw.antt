-- What a working from words to bits ends in is the bit form. Assumes nothing.
use Rattle.std.proofs.Common.{◌≡◌, ℕ, zero, suc, ◌+◌, ◌-◌, ◌*◌, ◌/◌, ◌%◌, ◌^◌, ◌<◌, ◌≤◌, Bool, true, false, cond, not, ◌&&◌, ◌||◌, eqb, ltb, leb, List, [], ◌∷◌, ◌++◌, length, get_or, take, replicate, Ok, Err, sym, refl, ap, ◌∙◌, subst, ap₂, subst₂, inl, inr, mod-lt, suc-mul, div-lt_iff_lt-mul, add_comm, zero-mul, arith, shr-shr}
use native.Mathlib.Nat.{mod-add-div'}
use lib.Arith.{digits_div, digits_mod}
use lib.Pow.{pow-lt, le_ones}
use Rattle.std.proofs.lemmas.List.{length-take-le}
use Rattle.std.proofs.lemmas.Bool.{cond-true, cond-false, le-ltb, lt-ltb, leb-true, le-leb, and_parts, and_from, true≢false}
use Rattle.algebra.specs.Codes.{code_ops, bit_of, Input}
use Rattle.algebra.specs.Field.{FieldData, FieldLaws, size, product}
use Rattle.algebra.specs.Ops.{Ops, one_bits, word_factor, word_factors_of, row_factors_of}
use Rattle.algebra.specs.Table.{Order, put, put_all}
use Rattle.algebra.specs.Terms as A
use Rattle.algebra.specs.Theorems.{code_xor, form_of, IsFormOf, ReadsInput}
use Rattle.algebra.specs.Working.{table_product, table_converted}
use Rattle.algebra.proofs.Digits.{bit_b, one_bit, xor_sum, place, packed_lt, packed_bit}
use Rattle.algebra.proofs.Worked.{form_worked}
use Rattle.fault.specs.declared.Fault.{Fault}
use Rattle.fault.specs.declared.Fault.TheVariants.{BitTableFull, TooManyBitTerms}
use Rattle.terms.specs.Exps.{limit, tops_for}
use Rattle.terms.specs.Kind.{KindModel, KindLaws}
use Rattle.terms.specs.Nets.{net_model}
use Rattle.terms.specs.Numbers.{inside}
use Rattle.terms.specs.Sets.{holds, Own, Within}
use Rattle.terms.specs.Terms.{blank, Nonzero, Codes, Monos}
use Rattle.terms.specs.Values.{every, set_on, value_under, bit_at}
use Rattle.terms.specs.declared.Term.{Term}
use Rattle.terms.specs.declared.nets.NetSet.{NetSet}
use Rattle.terms.specs.BothKinds.{net_laws, inside_length}
use Rattle.terms.proofs.Laws.{lower, higher, level, stands}
use Rattle.terms.proofs.Members.{laws_of_sets}
use Rattle.terms.proofs.Sole.{same_forms}
use Rattle.terms.proofs.Values.{every_all, every_at, on_or, value_at_agree}
use Rattle.convert.specs.Convert.{chosen, finished, Answered}
use Rattle.convert.specs.Places.{row_held}
use Rattle.convert.specs.declared.FullTable.{FullTable}
use Rattle.convert.proofs.Plain.{plain, plains}
use Rattle.convert.proofs.Value.{Z, converting_table}
use Rattle.cards.specs.BitsWorking.{word_factors, bits_working, BitsRefused, full, too_many, Inverse, BitsAnswered}
use Rattle.cards.specs.Law.{IsInput, card_value, Polynomial, FormOf}
use Rattle.cards.specs.Sums.{single_net, word_term, word_sum, card_kind}
use Rattle.cards.proofs.BitRows.{enough_bits, more_bits, kept_bits}
use Rattle.cards.proofs.Blocks.{net_own, net_below, one_member}
use Rattle.cards.proofs.CardLaw.{value_plain, held_plain, codes_plain, own_row, card_rows}
use Rattle.cards.proofs.Total.{total, total_laws, power_same, value_same, plain_push}

-- ---- the factors of a row, place by place and word by word
module _ (C : Ops ℕ) {K : Type 0} (net : ℕ → ℕ → K) (unit : ℕ → ℕ) (k : ℕ) (held : ℕ → Bool) (f : ℕ → List (Term K)) where
  -- the places of word w, which are those from b on, and then `rest` places more
  module _ (w e b rest : ℕ) (bits : (s : ℕ) → s < k → held (b + s) ≡ bit_b e s) (each : (s : ℕ) → s < k → plain (f (b + s)) ≡ word_factor C net unit w s k) where
    word_chosen : (c s : ℕ) → s + c ≡ k → plains (chosen held f (b + s) (c + rest)) ≡ word_factors_of C net unit k w (one_bits c s (e / 2 ^ s)) ++ plains (chosen held f (b + k) rest)
    word_chosen zero s h =
        let i : b + s ≡ b + k = omega arith in
        let n : 0 + rest ≡ rest = omega arith in
        ap₂ (λ (i n : ℕ). plains (chosen held f i n)) i n
    word_chosen (suc c) s h =
        let below : s < k = omega arith in
        let n : suc c + rest ≡ suc (c + rest) = omega arith in
        let i : b + suc s ≡ suc (b + s) = omega arith in
        let j : s + 1 ≡ suc s = omega arith in
        let half : e / 2 ^ suc s ≡ e / 2 ^ s / 2 = sym (shr-shr e s 1 ∙ ap (λ (z : ℕ). e / 2 ^ z) j) in
        let more : plains (chosen held f (suc (b + s)) (c + rest)) ≡ word_factors_of C net unit k w (one_bits c (suc s) (e / 2 ^ s / 2)) ++ plains (chosen held f (b + k) rest) =
        subst₂ (λ (i x : ℕ). plains (chosen held f i (c + rest)) ≡ word_factors_of C net unit k w (one_bits c (suc s) x) ++ plains (chosen held f (b + k) rest)) i half (word_chosen c (suc s) (omega arith)) in
        let rest_of = chosen held f (suc (b + s)) (c + rest) in
        ap (λ (n : ℕ). plains (chosen held f (b + s) n)) n ∙ ap (λ (t : Bool). plains (cond t (f (b + s) ∷ rest_of) rest_of)) (bits s below) ∙ go (each s below) more (bit_b e s)
      where
        go : plain (f (b + s)) ≡ word_factor C net unit w s k
            → plains (chosen held f (suc (b + s)) (c + rest)) ≡ word_factors_of C net unit k w (one_bits c (suc s) (e / 2 ^ s / 2)) ++ plains (chosen held f (b + k) rest)
            → (t : Bool) → plains (cond t (f (b + s) ∷ chosen held f (suc (b + s)) (c + rest)) (chosen held f (suc (b + s)) (c + rest)))
            ≡ word_factors_of C net unit k w (cond t (s ∷ one_bits c (suc s) (e / 2 ^ s / 2)) (one_bits c (suc s) (e / 2 ^ s / 2))) ++ plains (chosen held f (b + k) rest)
        go x y true = ap₂ ◌∷◌ x y
        go x y false = y

  no_bits : (c s : ℕ) → one_bits c s 0 ≡ []
  unfolding native.Mathlib.Decide.ℕ_discrete
  no_bits zero s = refl
  no_bits (suc c) s = no_bits c (suc s)

  -- a row of words from w on, of which the first n have an exponent
  module _ (r : List ℕ) (bits : (w s : ℕ) → w < 3 → s < k → held (w * k + s) ≡ bit_b (get_or r w 0) s) (each : (w s : ℕ) → s < k → plain (f (w * k + s)) ≡ word_factor C net unit w s k) where
    row_chosen : (es : List ℕ) (w n : ℕ) → w + length es ≡ 3 → ((j : ℕ) → get_or es j 0 ≡ get_or r (w + j) 0) → n ≤ length es → ((j : ℕ) → n ≤ j → get_or es j 0 ≡ 0)
        → plains (chosen held f (w * k) (n * k)) ≡ row_factors_of C net unit k w es
    row_chosen [] w n h g u z =
        let o : n ≡ 0 = omega arith in
        ap (λ (x : ℕ). plains (chosen held f (w * k) x)) (ap (λ (x : ℕ). x * k) o ∙ zero-mul k)
    row_chosen (e ∷ es) w zero h g u z =
        let next = row_chosen es (suc w) 0 (omega arith) (λ j. let i : w + suc j ≡ suc w + j = omega arith in g (suc j) ∙ ap (λ (x : ℕ). get_or r x 0) i) (omega arith) (λ j o. z (suc j) (omega arith)) in
        ap (λ (x : ℕ). plains (chosen held f (w * k) x)) (zero-mul k) ∙ sym (ap (λ (x : ℕ). plains (chosen held f (suc w * k) x)) (zero-mul k)) ∙ next
        ∙ ap (λ (b : List ℕ). word_factors_of C net unit k w b ++ row_factors_of C net unit k (suc w) es) (sym (ap (one_bits k 0) (z 0 (omega arith)) ∙ no_bits k 0))
    row_chosen (e ∷ es) w (suc n) h g u z =
        let next = row_chosen es (suc w) n (omega arith) (λ j. let i : w + suc j ≡ suc w + j = omega arith in g (suc j) ∙ ap (λ (x : ℕ). get_or r x 0) i) (omega arith) (λ j o. z (suc j) (omega arith)) in
        let same : get_or r w 0 ≡ e = let i : w ≡ w + 0 = omega arith in ap (λ (x : ℕ). get_or r x 0) i ∙ sym (g 0) in
        let here = word_chosen w e (w * k) (n * k) (λ s v. bits w s (omega arith) v ∙ ap (λ (x : ℕ). bit_b x s) same) (λ s v. each w s v) k 0 (omega arith) in
        let many : suc n * k ≡ k + n * k = let x = suc-mul n k in omega arith in
        let start : w * k ≡ w * k + 0 = omega arith in
        let whole : e / 2 ^ 0 ≡ e = omega arith in
        ap₂ (λ (i x : ℕ). plains (chosen held f i x)) start many ∙ here
        ∙ ap₂ (λ (x : ℕ) (y : List (List (A.Term ℕ K))). word_factors_of C net unit k w (one_bits k 0 x) ++ y) whole (ap (λ (i : ℕ). plains (chosen held f i (n * k))) (sym (suc-mul w k)) ∙ next)

-- ---- exponents past word n
tops_past : (q n j : ℕ) → n ≤ j → get_or (tops_for q n) j 0 ≡ 0
tops_past q n zero h = cond-false (ltb 0 n) (q - 1) 0 (le-ltb 0 n h)
tops_past q n (suc zero) h = cond-false (ltb 1 n) (q - 1) 0 (le-ltb 1 n h)
tops_past q n (suc (suc zero)) h = cond-false (ltb 2 n) (q - 1) 0 (le-ltb 2 n h)
tops_past q n (suc (suc (suc j))) h = refl

inside_zero : (ls xs : List ℕ) → inside ls xs ≡ true → (j : ℕ) → get_or ls j 0 ≡ 0 → get_or xs j 0 ≡ 0
inside_zero [] [] h j z = z
inside_zero [] (x ∷ xs) h j z = absurd (true≢false (sym h))
inside_zero (l ∷ ls) [] h j z = absurd (true≢false (sym h))
inside_zero (l ∷ ls) (x ∷ xs) h zero z = let u : x ≤ l = leb-true x l (and_parts (leb x l) (inside ls xs) h).0 in omega arith
inside_zero (l ∷ ls) (x ∷ xs) h (suc j) z = inside_zero ls xs (and_parts (leb x l) (inside ls xs) h).1 j z

-- ---- the tables worked with factors that agree at the terms' monomials
module _ (P : Ops ℕ) {K : Type 0} {less : K → K → Type 0} (O : Order less) (join : K → K → K) (unit : K) {S : Type 0} (f g : S → List (List (A.Term ℕ K))) where
  converted_same : (ts : List (A.Term ℕ S)) (us : List (A.Term ℕ K)) → A.All (λ t. f t.key ≡ g t.key) ts → table_converted P code_xor Z O join unit f ts us ≡ table_converted P code_xor Z O join unit g ts us
  converted_same [] us h = refl
  converted_same (t ∷ ts) us h =
      converted_same ts (put_all code_xor Z O (table_product P code_xor Z O join (put code_xor Z O (record { code = t.code; key = unit }) []) (f t.key)) us) h.1
      ∙ ap (λ (fs : List (List (A.Term ℕ K))). table_converted P code_xor Z O join unit g ts (put_all code_xor Z O (table_product P code_xor Z O join (put code_xor Z O (record { code = t.code; key = unit }) []) fs) us)) h.0

-- the order of a kind
kind_order : {M : Type 0} (k : KindModel M) (L : KindLaws k) → Order (λ (a b : M). k.less a b ≡ true)
kind_order k L = record {
  apart = λ a b x y. true≢false (sym (L.less_trans a b a x y) ∙ L.less_irrefl a);
  trans = L.less_trans;
  choose = λ a b. elim (stands k L a b) [ lower e ↦ inl e | higher e f ↦ inr (inr f) | level e f q ↦ inr (inl q) ];
}

-- ---- sets at an input
module _ (v : ℕ → Bool) where
  none_on : set_on v net_model.unit ≡ true
  none_on = every_all 256 (λ g. not (holds net_model.unit g) || v g) (λ g. ap (λ b. not b || v g) (laws_of_sets.none g))

  union_on : (s t : NetSet) → Own s → Own t → set_on v (net_model.times s t) ≡ (set_on v s && set_on v t)
  union_on s t a b = (λ i. every 256 (λ g. not (laws_of_sets.union s t a b g i) || v g)) ∙ on_or 256 v (holds s) (holds t)

  or_none : (b : Bool) → (b || false) ≡ b
  or_none true = refl
  or_none false = refl

  net_on : (p : ℕ) → p < 64 → set_on v (single_net p) ≡ v p
  net_on p h = (λ i. every 256 (λ g. not (((one_member p h).members g ∙ or_none (eqb g p)) i) || v g)) ∙ every_at 256 p v (omega arith)

-- ---- the input with given bits
module _ (k n : ℕ) (kp : 0 < k) (few : n ≤ 3) (v : ℕ → Bool) where
  abbrev packed : ℕ → ℕ
  packed w = xor_sum k (λ j. place (v (w * k + j)) j)

  -- the words with bit v g at net g, 0 past word n
  abbrev pub with_bits : List ℕ
  with_bits = cond (ltb 0 n) (packed 0) 0 ∷ (cond (ltb 1 n) (packed 1) 0 ∷ (cond (ltb 2 n) (packed 2) 0 ∷ []))

  word_is : (w : ℕ) → w < n → get_or with_bits w 0 ≡ packed w
  word_is zero h = cond-true (ltb 0 n) (packed 0) 0 (lt-ltb 0 n h)
  word_is (suc zero) h = cond-true (ltb 1 n) (packed 1) 0 (lt-ltb 1 n h)
  word_is (suc (suc zero)) h = cond-true (ltb 2 n) (packed 2) 0 (lt-ltb 2 n h)
  word_is (suc (suc (suc w))) h = absurd (omega arith)

  both_leb : (t : Bool) (x y : ℕ) → x ≤ y → leb (cond t x 0) (cond t y 0) ≡ true
  both_leb true x y h = le-leb x y h
  both_leb false x y h = le-leb 0 0 (omega arith)

  word_leb : (w : ℕ) → leb (cond (ltb w n) (packed w) 0) (limit (2 ^ k) n w) ≡ true
  word_leb w = both_leb (ltb w n) (packed w) (2 ^ k - 1) (le_ones k (packed_lt (λ j. v (w * k + j)) k))

  pub with_bits_input : inside (tops_for (2 ^ k) n) with_bits ≡ true
  with_bits_input = and_from (leb (cond (ltb 0 n) (packed 0) 0) (limit (2 ^ k) n 0)) _ (word_leb 0) (and_from (leb (cond (ltb 1 n) (packed 1) 0) (limit (2 ^ k) n 1)) _ (word_leb 1) (and_from (leb (cond (ltb 2 n) (packed 2) 0) (limit (2 ^ k) n 2)) true (word_leb 2) refl))

  pub with_bits_at : (g : ℕ) → g < n * k → v g ≡ bit_at k with_bits g
  with_bits_at g h =
      let back : g / k * k + g % k ≡ g = add_comm (g / k * k) (g % k) ∙ mod-add-div' g k in
      sym (ap (λ (x : ℕ). eqb (bit_of x (g % k)) 1) (word_is (g / k) ((div-lt_iff_lt-mul kp).1 h)) ∙ one_bit (packed (g / k)) (g % k) ∙ packed_bit (λ j. v (g / k * k + j)) k (g % k) (mod-lt g kp) ∙ ap v back)

-- ---- the bit form
form_codes : (m : FieldData) (ts : List (Term NetSet)) → A.All (λ t. (t.code < size m) × (¬ (t.code ≡ 0)) × Own t.key) (plain ts) → Codes (λ c. c < size m) ts
form_codes m [] a = tt
form_codes m (t ∷ ts) a = (a.0.0, form_codes m ts a.1)

form_nonzero : (m : FieldData) (ts : List (Term NetSet)) → A.All (λ t. (t.code < size m) × (¬ (t.code ≡ 0)) × Own t.key) (plain ts) → Nonzero ts
form_nonzero m [] a = tt
form_nonzero m (t ∷ ts) a = (let p = a.0.1 in omega arith, form_nonzero m ts a.1)

form_own : (m : FieldData) (ts : List (Term NetSet)) → A.All (λ t. (t.code < size m) × (¬ (t.code ≡ 0)) × Own t.key) (plain ts) → Monos Own ts
form_own m [] a = tt
form_own m (t ∷ ts) a = (a.0.2, form_own m ts a.1)

module _ (m : FieldData) (l : FieldLaws m) (n : ℕ) (few : n ≤ 3) where
  abbrev k : ℕ
  k = m.width

  wp : 0 < k
  wp = let h = l.narrow in omega arith

  abbrev C : Ops ℕ
  C = code_ops (total m)

  -- bit i of word w
  abbrev net : ℕ → ℕ → NetSet
  net w i = single_net (w * k + i)

  abbrev order : Order (λ (a b : NetSet). net_model.less a b ≡ true)
  order = kind_order net_model net_laws

  sum_is : (w s j : ℕ) → j ≤ k → plain (word_sum m w s j) ≡ word_factor C net (λ i. 2 ^ i) w s j
  sum_is w s zero h = refl
  sum_is w s (suc j) h =
      plain_push (word_sum m w s j) (word_term m w s j)
      ∙ ap₂ (λ (z : List (A.Term ℕ NetSet)) (c : ℕ). z ++ (record { code = c; key = net w j } ∷ [])) (sum_is w s j (omega arith)) (sym (power_same m l (2 ^ j) (2 ^ s) (pow-lt h)))

  row_factors : (r : List ℕ) → (card_kind m n).own r ≡ true → plains (word_factors m n r) ≡ row_factors_of C net (λ i. 2 ^ i) k 0 r
  row_factors r o =
      let long : length r ≡ 3 = inside_length (tops_for (size m) n) r o in
      let start : 0 ≡ 0 * k = sym (zero-mul k) in
      ap (λ (i : ℕ). plains (chosen (row_held k r) (λ p. word_sum m (p / k) (p % k) k) i (n * k))) start
      ∙ row_chosen C net (λ i. 2 ^ i) k (row_held k r) (λ p. word_sum m (p / k) (p % k) k) r
      (λ w s h u. ap₂ (λ (a b : ℕ). ltb a 3 && eqb (bit_of (get_or r a 0) b) 1) (digits_div w u) (digits_mod w u) ∙ ap (λ t. t && eqb (bit_of (get_or r w 0) s) 1) (lt-ltb w 3 h) ∙ one_bit (get_or r w 0) s)
      (λ w s u. ap₂ (λ (a b : ℕ). plain (word_sum m a b k)) (digits_div w u) (digits_mod w u) ∙ sum_is w s k (omega arith))
      r 0 n (omega arith) (λ j. let i : j ≡ 0 + j = omega arith in ap (λ (x : ℕ). get_or r x 0) i) (omega arith)
      (λ j h. inside_zero (tops_for (size m) n) r o j (tops_past (size m) n j h))

  all_factors : (ts : List (Term (List ℕ))) → Monos (λ r. (card_kind m n).own r ≡ true) ts → A.All (λ t. plains (word_factors m n t.key) ≡ row_factors_of C net (λ i. 2 ^ i) k 0 t.key) (plain ts)
  all_factors [] u = tt
  all_factors (t ∷ ts) u = (row_factors t.mono u.0, all_factors ts u.1)

  net_lawful : (w i : ℕ) → w < 3 → i < k → Own (net w i)
  net_lawful w i h u = net_own (w * k + i) (net_below w k i h l.wide u)

  reads : (xs : List ℕ) → ReadsInput (total m) Own net net_model.unit net_model.times 3 xs (set_on (bit_at k xs))
  reads xs = record {
    none_lawful = net_laws.unit_own;
    join_lawful = net_laws.times_own;
    net_lawful = net_lawful;
    none_on = none_on (bit_at k xs);
    join_on = union_on (bit_at k xs);
    net_on = λ w i h u.
        net_on (bit_at k xs) (w * k + i) (net_below w k i h l.wide u) ∙ ap₂ (λ (a b : ℕ). eqb (bit_of (get_or xs a 0) b) 1) (digits_div w u) (digits_mod w u) ∙ one_bit (get_or xs w 0) i;
  }

  module _ (cap rows : ℕ) (card : List (Term (List ℕ))) (p : Polynomial m n card) (us : List (Term NetSet)) (e : bits_working m n cap rows card ≡ finished us) where
    made : IsFormOf (total m) Own (λ a b. net_model.less a b ≡ true) net net_model.unit net_model.times 3 (plain card) (plain us)
    made =
        let worked = converting_table net_model net_laws order (λ a b x. x) C cap rows (word_factors m n) card [] us e in
        let is : plain us ≡ form_of (total m) order net net_model.unit net_model.times (plain card) =
        worked ∙ converted_same C order net_model.times net_model.unit (λ r. plains (word_factors m n r)) (λ r. row_factors_of C net (λ i. 2 ^ i) k 0 r) (plain card) [] (all_factors card p.rows) in
        subst (IsFormOf (total m) Own (λ a b. net_model.less a b ≡ true) net net_model.unit net_model.times 3 (plain card)) (sym is)
        (form_worked (record { it = total m; laws = total_laws m l }) NetSet Own (λ a b. net_model.less a b ≡ true) order net net_model.unit net_model.times 3
        net_laws.unit_own net_laws.times_own net_lawful (plain card) (card_rows m n card p.codes p.nonzero p.rows))

    abbrev Values : List (Term NetSet) → Type 0
    Values ts = (xs : List ℕ) → IsInput m n xs → value_under (bit_at k xs) ts ≡ card_value m card xs

    values : Values us
    values xs h =
        let i : Input m 3 xs = own_row m n xs h in
        held_plain (total m) (set_on (bit_at k xs)) us ∙ made.values xs (set_on (bit_at k xs)) i (reads xs)
        ∙ value_same m l (plain card) xs 3 (codes_plain (λ c. c < size m) card p.codes) i ∙ sym (value_plain m card xs)

    -- forms with these values agree at all bits
    at_bits : (ts : List (Term NetSet)) → Monos (Within (n * k)) ts → Values ts → (v : ℕ → Bool) → value_under v ts ≡ card_value m card (with_bits k n wp few v)
    at_bits ts w h v = value_at_agree v (bit_at k (with_bits k n wp few v)) (n * k) (with_bits_at k n wp few v) ts w ∙ h (with_bits k n wp few v) (with_bits_input k n wp few v)

    pub form_of_lem : FormOf m n card us
    form_of_lem =
        let kept = kept_bits m l n cap rows card us e in
        record {
          bit_form = record {
            terms = record { codes = form_codes m us made.terms; within = kept.1 };
            nonzero = form_nonzero m us made.terms;
            sets = form_own m us made.terms;
            falling = kept.0;
          };
          values = values;
          only = λ ts b h.
              same_forms ts us (record { own = b.sets; falling = b.falling; nonzero = b.nonzero }) (record { own = form_own m us made.terms; falling = kept.0; nonzero = form_nonzero m us made.terms })
              (λ v. at_bits ts b.terms.within h v ∙ sym (at_bits us kept.1 values v));
        }

    -- the values of the two conversions meet
    pub inverse : Inverse m n card us
    inverse = record {
      card_again = λ cap' count rows' t a. sym ((a.made form_of_lem.bit_form.terms).only card p (λ xs h. sym (values xs h)));
      form_again = λ bits b c. sym (form_of_lem.only bits b (λ xs h. sym (c.values xs h)));
    }

  -- the working goes to its end where the rows suffice
  ends : (cap count : ℕ) → 2 ^ (n * m.width) ≤ cap → 2 ^ (n * m.width) ≤ count → (card : List (Term (List ℕ))) → (form : List (Term NetSet)) × (bits_working m n cap count card ≡ finished form)
  ends cap count h r card = let x = enough_bits m l n cap count h r card in (x.0, x.1)

  -- the whole answer, from that of the conversion
  pub bits_ok : (cap count : ℕ) (card : List (Term (List ℕ))) (rows : List (Term NetSet)) (t : ℕ) → t ≤ 256 → Answered net_model (product m) cap count (word_factors m n) card rows (Ok t)
      → BitsAnswered m n cap count card rows (Ok t)
  bits_ok cap count card rows t most a = record {
    worked = (a.0, most, a.1);
    inputs = (kept_bits m l n cap count card (take t rows) a.0).1;
    made = λ p. form_of_lem cap count card p (take t rows) a.0;
    inverse = λ p. inverse cap count card p (take t rows) a.0;
    enough = λ h r. ends cap count h r card;
    more = λ cap' count' h r form e. more_bits m l n cap cap' count count' h r card form e;
  }

  -- a refusal, whatever its reason
  refused : (cap count : ℕ) (card : List (Term (List ℕ))) (rows : List (Term NetSet)) (e : Fault) → BitsRefused (bits_working m n cap count card) e → rows ≡ replicate count (blank net_model)
      → BitsAnswered m n cap count card rows (Err e)
  refused cap count card rows e why cleared = record {
    worked = (why, cleared);
    inputs = tt;
    made = λ _. tt;
    inverse = λ _. tt;
    enough = λ h r. ends cap count h r card;
    more = λ cap' count' h r form e. more_bits m l n cap cap' count count' h r card form e;
  }

  pub bits_many : (cap count : ℕ) (card : List (Term (List ℕ))) (rows : List (Term NetSet)) (t : ℕ) → 256 < t → Answered net_model (product m) cap count (word_factors m n) card rows (Ok t)
      → (after : List (Term NetSet)) → after ≡ replicate count (blank net_model) → BitsAnswered m n cap count card after (Err TooManyBitTerms)
  bits_many cap count card rows t many a after cleared =
      refused cap count card after TooManyBitTerms (too_many (take t rows) a.0 (let e = length-take-le t rows a.1.within in omega arith)) cleared

  pub bits_err : (cap count : ℕ) (card : List (Term (List ℕ))) (rows : List (Term NetSet)) (t : FullTable) → Answered net_model (product m) cap count (word_factors m n) card rows (Err t)
      → BitsAnswered m n cap count card rows (Err BitTableFull)
  bits_err cap count card rows t a = refused cap count card rows BitTableFull (full t a.0) a.1
