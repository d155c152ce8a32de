-- The sums of the places, by their terms. Assumes nothing.
use Rattle.std.proofs.Common.{◌≡◌, ℕ, zero, suc, ◌+◌, ◌-◌, ◌*◌, ◌/◌, ◌%◌, ◌^◌, ◌<◌, ◌≤◌, Bool, true, cond, ltb, leb, List, [], ◌∷◌, ◌++◌, length, get_or, take, drop, set, Result, sym, refl, ap, ◌∙◌, subst, ap₂, subst₂, ⊎_elim, one-mul, mod-eq_of_lt, div-lt_iff_lt-mul, mul-le-mul, arith, length-drop, get_or-drop}
use native.Mathlib.Nat.{div-eq_of_lt}
use lib.Arith.{digits_div, digits_mod, digits_lt}
use lib.Pow.{pow-lt, le_ones}
use Rattle.std.proofs.lemmas.List.{take_more}
use Rattle.std.proofs.lemmas.Bool.{le-leb, lt-ltb, and_from, cond-true}
use Rattle.algebra.specs.Field.{FieldData, FieldLaws, size, product}
use Rattle.algebra.specs.Ops.{at_row}
use Rattle.algebra.proofs.Reduce.{lt_or_le}
use Rattle.terms.specs.Exps.{limit, tops_for}
use Rattle.terms.specs.Kind.{KindModel}
use Rattle.terms.specs.Nets.{net_model}
use Rattle.terms.specs.Numbers.{inside}
use Rattle.terms.specs.Terms.{Monos}
use Rattle.terms.specs.declared.Term.{Term}
use Rattle.terms.specs.declared.nets.NetSet.{NetSet}
use Rattle.convert.specs.Convert.{block, chosen, Answered}
use Rattle.terms.specs.Sets.{holds, SetOf}
use Rattle.terms.proofs.Changes.{single}
use Rattle.terms.proofs.Changes as terms
use Rattle.convert.specs.Places.{row_held}
use Rattle.convert.specs.declared.FullTable.{FullTable}
use Rattle.cards.specs.Sums.{listed, bit_term, card_kind, BitSums, single_net, word_term, WordSums}
use Rattle.cards.specs.BitsWorking.{word_factors}
use Rattle.cards.specs.Working.{bit_factors}

-- ---- own rows
monos_each : {M : Type 0} (P : M → Type 0) (ts : List (Term M)) → ((i : ℕ) → i < length ts → (x : Term M) → P (get_or ts i x).mono) → Monos P ts
monos_each P [] h = tt
monos_each P (t ∷ ts) h = (h 0 (omega arith) t, monos_each P ts (λ i l x. h (suc i) (omega arith) x))

-- terms that are P, and then blank ones
pub monos_filled : {M : Type 0} (P : M → Type 0) (n : ℕ) (ts : List (Term M)) (blank : Term M) → P blank.mono → ((i : ℕ) → i < n → (x : Term M) → P (get_or ts i x).mono)
    → ((i : ℕ) → i < length ts → n ≤ i → (x : Term M) → get_or ts i x ≡ blank) → Monos P ts
monos_filled {M} P n ts blank b made rest =
    monos_each P ts (λ i l x. ⊎_elim (λ u. made i u x) (λ u. subst (λ (t : Term M). P t.mono) (sym (rest i l u x)) b) (lt_or_le i n))

-- a one bit moved up by less than 16 places
pub one_bit : (i : ℕ) → i < 16 → 1 * 2 ^ i % 65536 ≡ 2 ^ i
one_bit i h = ap (λ (x : ℕ). x % 65536) (one-mul (2 ^ i)) ∙ mod-eq_of_lt (pow-lt {i = i} {j = 16} h)

zero_leb : (x : ℕ) → leb 0 x ≡ true
zero_leb x = le-leb 0 x (omega arith)

at_inside : (a b c w e : ℕ) → w < 3 → e ≤ get_or (a ∷ (b ∷ (c ∷ []))) w 0 → inside (a ∷ (b ∷ (c ∷ []))) (at_row 3 w e) ≡ true
at_inside a b c zero e h l = and_from (leb e a) _ (le-leb e a l) (and_from (leb 0 b) _ (zero_leb b) (and_from (leb 0 c) true (zero_leb c) refl))
at_inside a b c (suc zero) e h l = and_from (leb 0 a) _ (zero_leb a) (and_from (leb e b) _ (le-leb e b l) (and_from (leb 0 c) true (zero_leb c) refl))
at_inside a b c (suc (suc zero)) e h l = and_from (leb 0 a) _ (zero_leb a) (and_from (leb 0 b) _ (zero_leb b) (and_from (leb e c) true (le-leb e c l) refl))
at_inside a b c (suc (suc (suc w))) e h l = absurd (omega arith)

pub limit_at : (q n w : ℕ) → w < n → n ≤ 3 → get_or (tops_for q n) w 0 ≡ q - 1
limit_at q n zero h l = cond-true (ltb 0 n) (q - 1) 0 (lt-ltb 0 n h)
limit_at q n (suc zero) h l = cond-true (ltb 1 n) (q - 1) 0 (lt-ltb 1 n h)
limit_at q n (suc (suc zero)) h l = cond-true (ltb 2 n) (q - 1) 0 (lt-ltb 2 n h)
limit_at q n (suc (suc (suc w))) h l = absurd (omega arith)

pub row_own : (m : FieldData) (n w j : ℕ) → w < n → n ≤ 3 → j < m.width → (card_kind m n).own (at_row 3 w (2 ^ j)) ≡ true
row_own m n w j h l k =
    let q = size m in
    let e : 2 ^ j ≤ q - 1 = le_ones m.width (pow-lt k) in
    at_inside (limit q n 0) (limit q n 1) (limit q n 2) w (2 ^ j) (omega arith) (subst (λ x. 2 ^ j ≤ x) (sym (limit_at q n w h l)) e)

pub net_own : (p : ℕ) → p < 64 → net_model.own (single_net p) ≡ true
net_own p h =
    and_from (leb (2 ^ p) (2 ^ 64 - 1)) _ (le-leb (2 ^ p) (2 ^ 64 - 1) (le_ones 64 (pow-lt h)))
    (and_from (leb 0 (2 ^ 64 - 1)) _ (zero_leb (2 ^ 64 - 1)) (and_from (leb 0 (2 ^ 64 - 1)) _ (zero_leb (2 ^ 64 - 1)) (and_from (leb 0 (2 ^ 64 - 1)) true (zero_leb (2 ^ 64 - 1)) refl)))

-- the one word that is not 0
single_is : (p : ℕ) → p < 64 → single p ≡ single_net p
single_is p h =
    let word : 1 * 2 ^ (p % 64) % 2 ^ 64 ≡ 2 ^ p = ap (λ (i : ℕ). 1 * 2 ^ i % 2 ^ 64) (mod-eq_of_lt h) ∙ (let l = pow-lt {i = p} {j = 64} h in let e : 1 * 2 ^ p % 2 ^ 64 ≡ 2 ^ p = omega arith in e) in
    ap₂ (λ (i w : ℕ). record { words = set (0 ∷ (0 ∷ (0 ∷ (0 ∷ [])))) i w }) (div-eq_of_lt h) word

-- it holds that net alone
pub one_member : (p : ℕ) → p < 64 → SetOf (p ∷ []) (single_net p)
one_member p h = subst (SetOf (p ∷ [])) (single_is p h) (terms.single_net p (omega arith))

-- ---- places
pub net_below : (w k i : ℕ) → w < 3 → k ≤ 8 → i < k → w * k + i < 64
net_below w k i h u v = let a = digits_lt h v in let b : 3 * k ≤ 24 = omega arith in omega arith

pub word_below : (n k t : ℕ) → 0 < k → t < n * k * k → t / k / k < n
word_below n k t h l = (div-lt_iff_lt-mul h).1 ((div-lt_iff_lt-mul h).1 l)

pub few_terms : (n k : ℕ) → n ≤ 3 → k ≤ 8 → n * k * k ≤ 192
few_terms n k h l = mul-le-mul (mul-le-mul h l) l

-- ---- blocks
module _ {M : Type 0} (k places : ℕ) (f : ℕ → ℕ → Term M) (sums : List (Term M)) (long : places * k ≤ length sums)
    (terms : (p j : ℕ) → p < places → j < k → (x : Term M) → get_or sums (p * k + j) x ≡ f p j) where
  front : (p : ℕ) → p < places → (j : ℕ) → j ≤ k → take j (drop (p * k) sums) ≡ listed (f p) j
  front p h zero u = refl
  front p h (suc j) u =
      let rest = drop (p * k) sums in
      let fits : p * k + j < places * k = digits_lt h u in
      let lr : length rest ≡ length sums - p * k = length-drop (p * k) sums in
      let lt : j < length rest = omega (arith, lr, fits, long) in
      let s : suc j ≡ j + 1 = omega arith in
      ap (λ i. take i rest) s ∙ take_more rest j (f p j) lt
      ∙ ap₂ (λ a b. a ++ (b ∷ [])) (front p h j (omega arith)) (get_or-drop (p * k) sums j (f p j) ∙ terms p j h u (f p j))

  -- block p has the terms of place p
  pub block_is : (p : ℕ) → p < places → block k sums p ≡ listed (f p) k
  block_is p h = front p h k (omega arith)

-- the same factors chosen
pub chosen_same : {M : Type 0} (held : ℕ → Bool) (f g : ℕ → List (Term M)) (places : ℕ) → ((p : ℕ) → p < places → f p ≡ g p)
    → (i n : ℕ) → i + n ≤ places → chosen held f i n ≡ chosen held g i n
chosen_same held f g places e i zero h = refl
chosen_same held f g places e i (suc n) h =
    let rest = chosen_same held f g places e (suc i) n (omega arith) in
    ap₂ (λ x y. cond (held i) (x ∷ y) y) (e i (omega arith)) rest

-- the sums of the places of n words, where place p has the terms f p
module _ {M : Type 0} (m : FieldData) (l : FieldLaws m) (n : ℕ) (f : ℕ → ℕ → Term M) (sums : List (Term M)) (h : n ≤ 3) (count : length sums ≡ 192)
    (terms : (t : ℕ) → t < n * m.width * m.width → (x : Term M) → get_or sums t x ≡ f (t / m.width) (t % m.width)) where
  long : n * m.width * m.width ≤ length sums
  long = let a = few_terms n m.width h l.wide in omega (arith, count)

  here : (p j : ℕ) → p < n * m.width → j < m.width → (x : Term M) → get_or sums (p * m.width + j) x ≡ f p j
  here p j u v x = terms (p * m.width + j) (digits_lt u v) x ∙ ap₂ f (digits_div p v) (digits_mod p v)

  -- the same factors of each source monomial, of which `held` says which places it holds
  module _ {S : Type 0} (held : ℕ → S → ℕ → Bool) where
    factors_same : Path (S → List (List (Term M))) (λ s. chosen (held m.width s) (block m.width sums) 0 (n * m.width)) (λ s. chosen (held m.width s) (λ p. listed (f p) m.width) 0 (n * m.width))
    factors_same = λ i s.
        chosen_same (held m.width s) (block m.width sums) (λ p. listed (f p) m.width) (n * m.width) (block_is m.width (n * m.width) f sums long here) 0 (n * m.width) (omega arith) i

    answered : (k j : KindModel M) (w cap room : ℕ) (source : List (Term S)) (rows : List (Term M)) (r : Result ℕ FullTable) → k ≡ j → w ≡ m.width
        → Answered k (product m) cap room (λ s. chosen (held w s) (block w sums) 0 (n * w)) source rows r
        → Answered j (product m) cap room (λ s. chosen (held m.width s) (λ p. listed (f p) m.width) 0 (n * m.width)) source rows r
    answered k j w cap room source rows r ek ew a =
        subst (λ g. Answered j (product m) cap room g source rows r) factors_same
        (subst₂ (λ (x : KindModel M) (v : ℕ). Answered x (product m) cap room (λ s. chosen (held v s) (block v sums) 0 (n * v)) source rows r) ek ew a)

-- an answer by the sums is one by the factors of the bits
module _ (m : FieldData) (l : FieldLaws m) (n : ℕ) (sums : List (Term (List ℕ))) (h : n ≤ 3) (b : BitSums m n sums) where
  abbrev place_bits : ℕ → ℕ → Term (List ℕ)
  place_bits p j = bit_term m (p / m.width) (b.dual (p % m.width)) j

  pub whole : n * m.width * m.width ≤ length sums
  whole = long m l n place_bits sums h b.count b.terms

  pub bit_here : (p j : ℕ) → p < n * m.width → j < m.width → (x : Term (List ℕ)) → get_or sums (p * m.width + j) x ≡ bit_term m (p / m.width) (b.dual (p % m.width)) j
  bit_here = here m l n place_bits sums h b.count b.terms

  pub answered_by : (k : KindModel (List ℕ)) (w cap count : ℕ) (bits : List (Term NetSet)) (rows : List (Term (List ℕ))) (r : Result ℕ FullTable) → k ≡ card_kind m n → w ≡ m.width
      → Answered k (product m) cap count (λ s. chosen (holds s) (block w sums) 0 (n * w)) bits rows r
      → Answered (card_kind m n) (product m) cap count (bit_factors m n b.dual) bits rows r
  answered_by k = answered m l n place_bits sums h b.count b.terms (λ _. holds) k (card_kind m n)

-- the same for the sums of the words' powers
module _ (m : FieldData) (l : FieldLaws m) (n : ℕ) (sums : List (Term NetSet)) (h : n ≤ 3) (b : WordSums m n sums) where
  abbrev place_words : ℕ → ℕ → Term NetSet
  place_words p i = word_term m (p / m.width) (p % m.width) i

  pub words_whole : n * m.width * m.width ≤ length sums
  words_whole = long m l n place_words sums h b.count b.terms

  pub bits_answered_by : (w cap count : ℕ) (card : List (Term (List ℕ))) (rows : List (Term NetSet)) (r : Result ℕ FullTable) → w ≡ m.width
      → Answered net_model (product m) cap count (λ s. chosen (row_held w s) (block w sums) 0 (n * w)) card rows r
      → Answered net_model (product m) cap count (word_factors m n) card rows r
  bits_answered_by w cap count card rows r = answered m l n place_words sums h b.count b.terms row_held net_model net_model w cap count card rows r refl
