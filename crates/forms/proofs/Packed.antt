-- The words of an input in one number, and back. Assumes nothing.
use Rattle.std.proofs.Common.{◌≡◌, ℕ, zero, suc, ◌+◌, ◌-◌, ◌*◌, ◌/◌, ◌%◌, ◌^◌, ◌<◌, ◌≤◌, true, eqb, ltb, leb, List, [], ◌∷◌, length, get_or, reverse, sym, refl, ap, ◌∙◌, subst, ap₂, ⊎_elim, mul-le-mul_right, mod-lt, mul_comm, div-add-mod', arith, pow_pos, pow-add, shr-shr}
use native.Mathlib.Nat.{zero-div}
use lib.Bits.{bit_and, bit_or}
use lib.Pow.{le_ones}
use Rattle.std.specs.List.{fold}
use Rattle.std.proofs.lemmas.Nat.{and_mask, one_shl, shl_whole, or_shifted, mul-add-lt, div_below}
use Rattle.std.proofs.lemmas.Bool.{cases_lt, le-leb, lt-ltb, and_from, cond-true, cases_Bool}
use Rattle.terms.specs.Counts.{rank}
use Rattle.terms.specs.Exps.{limit}
use Rattle.terms.specs.Sets.{holds, Within}
use Rattle.terms.specs.Values.{bit_at}
use Rattle.terms.specs.declared.nets.NetSet.{NetSet}
use Rattle.terms.specs.BothKinds.{as_three}
use Rattle.terms.proofs.Members.{same_bits, zero_bit}
use Rattle.terms.proofs.Ranks.{Below, low_bit, rank_bit}
use Rattle.terms.proofs.Subsets.{past_bit}
use Rattle.forms.specs.Inputs.{Width, InputOf}

-- the mask of k bits
abbrev pub mask : ℕ → ℕ
mask k = (1 * 2 ^ k) % 2 ^ 64 - 1

pub masked : (k x : ℕ) → k ≤ 16 → bit_and x (mask k) ≡ x % 2 ^ k
masked k x l = ap (λ m. bit_and x (m - 1)) (one_shl k 64 (omega arith)) ∙ and_mask x k

-- the low bits of a number stay
mod_bit : (k x j : ℕ) → j < k → x % 2 ^ k / 2 ^ j % 2 ≡ x / 2 ^ j % 2
mod_bit k x j l =
    let e : x % 2 ^ k + 2 ^ k * (x / 2 ^ k) ≡ x = omega (arith, div-add-mod' x (2 ^ k), mul_comm (2 ^ k) (x / 2 ^ k)) in
    sym (low_bit k (x % 2 ^ k) (x / 2 ^ k) j l) ∙ ap (λ y. y / 2 ^ j % 2) e

-- ---- one number of three words
joined : (k u a b : ℕ) → u < 2 ^ b → b + k ≤ 64 → k ≤ 16 → bit_or ((u * 2 ^ k) % 2 ^ 64) (bit_and a (mask k)) ≡ a % 2 ^ k + 2 ^ k * u
joined k u a b h l m =
    ap₂ bit_or (shl_whole u b k 64 h l) (masked k a m) ∙ or_shifted u k (a % 2 ^ k) (mod-lt a (pow_pos k))
    ∙ (let e : u * 2 ^ k + a % 2 ^ k ≡ a % 2 ^ k + 2 ^ k * u = omega (arith, mul_comm u (2 ^ k)) in e)

abbrev low_parts : ℕ → List ℕ → List ℕ
low_parts k [] = []
low_parts k (x ∷ xs) = x % 2 ^ k ∷ low_parts k xs

parts_below : (k : ℕ) (xs : List ℕ) → Below k (low_parts k xs)
parts_below k [] = tt
parts_below k (x ∷ xs) = (mod-lt x (pow_pos k), parts_below k xs)

parts_bit : (k : ℕ) (xs : List ℕ) (i j : ℕ) → j < k → get_or (low_parts k xs) i 0 / 2 ^ j % 2 ≡ get_or xs i 0 / 2 ^ j % 2
parts_bit k [] i j l = refl
parts_bit k (x ∷ xs) zero j l = mod_bit k x j l
parts_bit k (x ∷ xs) (suc i) j l = parts_bit k xs i j l

-- each word, the highest first, goes below those before it
abbrev pub packed : ℕ → List ℕ → ℕ
packed k xs = fold (λ u x. bit_or ((u * 2 ^ k) % 2 ^ 64) (bit_and x (mask k))) 0 (reverse xs)

packed_rank : (k a b c : ℕ) → Width k → packed k (a ∷ (b ∷ (c ∷ []))) ≡ rank k (low_parts k (a ∷ (b ∷ (c ∷ []))))
packed_rank k a b c w =
    let C = c % 2 ^ k in
    let hc : C < 2 ^ k = mod-lt c (pow_pos k) in
    let hb : b % 2 ^ k < 2 ^ k = mod-lt b (pow_pos k) in
    let first = joined k 0 c 0 (omega arith) (omega arith) w.1 in
    let e : C + 2 ^ k * 0 ≡ C = omega arith in
    let second = joined k C b k hc (omega arith) w.1 in
    let small : b % 2 ^ k + 2 ^ k * C < 2 ^ (k + k) = omega (arith, mul-add-lt C (2 ^ k) (b % 2 ^ k) (2 ^ k) hc hb, mul_comm C (2 ^ k), pow-add 2 k k) in
    let third = joined k (b % 2 ^ k + 2 ^ k * C) a (k + k) small (omega arith) w.1 in
    rw (first, e, second, third)

pub packed_bits : (k : ℕ) (xs : List ℕ) → Width k → length xs ≡ 3 → (g : ℕ) → eqb (packed k xs / 2 ^ g % 2) 1 ≡ bit_at k xs g
packed_bits k xs w l g = subst (λ ys. eqb (packed k ys / 2 ^ g % 2) 1 ≡ bit_at k ys g) (sym (as_three xs l)) (three (get_or xs 0 0) (get_or xs 1 0) (get_or xs 2 0))
  where
    three : (a b c : ℕ) → eqb (packed k (a ∷ (b ∷ (c ∷ []))) / 2 ^ g % 2) 1 ≡ bit_at k (a ∷ (b ∷ (c ∷ []))) g
    three a b c =
        let ys = a ∷ (b ∷ (c ∷ [])) in
        ap (λ x. eqb (x / 2 ^ g % 2) 1) (packed_rank k a b c w)
        ∙ ap (λ x. eqb x 1) (rank_bit k w.0 (low_parts k ys) (parts_below k ys) g ∙ parts_bit k ys (g / k) (g % k) (mod-lt g w.0))

-- ---- the three words of a number
abbrev word : ℕ → ℕ → ℕ → ℕ
word k a i = a / 2 ^ (i * k) % 2 ^ k

abbrev pub words_of : ℕ → ℕ → List ℕ
words_of k a = word k a 0 ∷ (word k a 1 ∷ (word k a 2 ∷ []))

word_bit : (k a i j : ℕ) → j < k → word k a i / 2 ^ j % 2 ≡ a / 2 ^ (i * k + j) % 2
word_bit k a i j l = mod_bit k (a / 2 ^ (i * k)) j l ∙ ap (λ x. x % 2) (shr-shr a (i * k) j)

words_at : (k a i : ℕ) → i < 3 → get_or (words_of k a) i 0 ≡ word k a i
words_at k a zero l = refl
words_at k a (suc zero) l = refl
words_at k a (suc (suc zero)) l = refl
words_at k a (suc (suc (suc i))) l = absurd (omega arith)

words_below : (k a i : ℕ) → get_or (words_of k a) i 0 < 2 ^ k
words_below k a zero = mod-lt (a / 2 ^ (0 * k)) (pow_pos k)
words_below k a (suc zero) = mod-lt (a / 2 ^ (1 * k)) (pow_pos k)
words_below k a (suc (suc zero)) = mod-lt (a / 2 ^ (2 * k)) (pow_pos k)
words_below k a (suc (suc (suc i))) = pow_pos k

-- the number's first bits are the nets of s
module _ (k : ℕ) (w : Width k) (s : NetSet) (a : ℕ) (same : (g : ℕ) → g < 64 → eqb (a / 2 ^ g % 2) 1 ≡ holds s g) where
  bits : (g : ℕ) → g < 3 * k → bit_at k (words_of k a) g ≡ holds s g
  bits g l =
      let i : g / k < 3 = div_below g k 3 w.0 l in
      ap (λ x. eqb (x / 2 ^ (g % k) % 2) 1) (words_at k a (g / k) i) ∙ ap (λ x. eqb x 1) (word_bit k a (g / k) (g % k) (mod-lt g w.0))
      ∙ ap (λ x. eqb (a / 2 ^ x % 2) 1) (div-add-mod' g k) ∙ same g (omega arith)

  -- a word past those of the nets
  past : (n i : ℕ) → Within (n * k) s → n ≤ i → i < 3 → word k a i ≡ 0
  past n i h p q =
      same_bits k (word k a i) 0 (mod-lt (a / 2 ^ (i * k)) (pow_pos k)) (pow_pos k)
      (λ j. ⊎_elim
      (λ l.
      let net : i * k + j < 64 = let m = mul-add-lt i k j 3 q l in omega arith in
      let m : n * k ≤ i * k = mul-le-mul_right k p in
      word_bit k a i j l
      ∙ zero_bit (a / 2 ^ (i * k + j)) (same (i * k + j) net ∙ ⊎_elim (λ t. absurd (let x = h (i * k + j) t in omega arith)) (λ f. f) (cases_Bool (holds s (i * k + j))))
      ∙ sym (ap (λ x. x % 2) (zero-div (2 ^ j))))
      (λ l. past_bit k (word k a i) j (mod-lt (a / 2 ^ (i * k)) (pow_pos k)) l ∙ sym (ap (λ x. x % 2) (zero-div (2 ^ j))))
      (cases_lt j k))

  limited : (n i : ℕ) → Within (n * k) s → i < 3 → leb (word k a i) (limit (2 ^ k) n i) ≡ true
  limited n i h q =
      ⊎_elim
      (λ l. le-leb (word k a i) (limit (2 ^ k) n i) (subst (λ x. word k a i ≤ x) (sym (cond-true (ltb i n) (2 ^ k - 1) 0 (lt-ltb i n l))) (le_ones k (mod-lt (a / 2 ^ (i * k)) (pow_pos k)))))
      (λ l. le-leb (word k a i) (limit (2 ^ k) n i) (let e = past n i h l q in omega arith))
      (cases_lt i n)

  pub words_input : InputOf k s (words_of k a)
  words_input = record {
    long = refl;
    below = words_below k a;
    bits = bits;
    input = λ n h.
        and_from (leb (word k a 0) (limit (2 ^ k) n 0)) _ (limited n 0 h (omega arith))
        (and_from (leb (word k a 1) (limit (2 ^ k) n 1)) _ (limited n 1 h (omega arith)) (and_from (leb (word k a 2) (limit (2 ^ k) n 2)) true (limited n 2 h (omega arith)) refl));
  }
