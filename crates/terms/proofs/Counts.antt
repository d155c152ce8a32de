-- Counts: of one bits by places, and of the nets of a set. Assumes nothing.
use Rattle.std.proofs.Common.{◌≡◌, ℕ, zero, suc, ◌+◌, ◌*◌, ◌/◌, ◌%◌, ◌^◌, ◌<◌, ◌≤◌, Bool, true, cond, eqb, sum_by, List, length, get_or, sym, refl, ap, ◌∙◌, subst, ap₂, mod-lt, mul_comm, add_comm, div-add-mod', zero-add, arith, pow_pos}
use native.Mathlib.Nat.{add-mul-div_left, div-eq_of_lt}
use lib.Count.{ones, ones_cat}
use Rattle.std.proofs.lemmas.Nat.{div_below}
use Rattle.std.proofs.lemmas.Bool.{cond_both}
use Rattle.std.proofs.lemmas.Bool.Decides.{nat_tests}
use Rattle.std.proofs.lemmas.List.Recursion.{is_sum_by}
use Rattle.terms.specs.Counts.{count, nets_in, net_set, weight}
use Rattle.terms.specs.Sets.{holds, Own}
use Rattle.terms.specs.declared.nets.NetSet.{NetSet}
use Rattle.terms.proofs.Members.{number, number_below, holds_number, own_words}
use Rattle.terms.proofs.Changes.{own_of}
use Rattle.terms.proofs.Ranks.{low_bit, rank_ones}

pub count_same : (n : ℕ) (p q : ℕ → Bool) → ((i : ℕ) → i < n → p i ≡ q i) → count n p ≡ count n q
unfolding count
count_same zero p q e = refl
count_same (suc n) p q e = ap₂ (λ b c. cond b (suc c) c) (e n (omega arith)) (count_same n p q (λ i l. e i (omega arith)))

pub count_more : (n : ℕ) (p q : ℕ → Bool) → ((i : ℕ) → p i ≡ true → q i ≡ true) → count n p ≤ count n q
unfolding count
count_more zero p q e = omega arith
count_more (suc n) p q e = let h = count_more n p q e in let f = e n in grind (arith, nat_tests)

-- a bit more at the top
top_bit : (n q r : ℕ) → q < 2 → r < 2 ^ n → count n (λ i. eqb (r / 2 ^ i % 2) 1) ≡ ones r → count (suc n) (λ i. eqb ((r + 2 ^ n * q) / 2 ^ i % 2) 1) ≡ ones (r + 2 ^ n * q)
unfolding count ones
top_bit n q r l h e =
    ap₂ (λ x c. cond (eqb (x % 2) 1) (suc c) c)
    (add-mul-div_left r q (pow_pos n) ∙ ap (λ x. x + q) (div-eq_of_lt h) ∙ zero-add q)
    (count_same n (λ i. eqb ((r + 2 ^ n * q) / 2 ^ i % 2) 1) (λ i. eqb (r / 2 ^ i % 2) 1) (λ i m. ap (λ x. eqb x 1) (low_bit n r q i m)) ∙ e)
    ∙ digit q l
    ∙ sym (ap ones (add_comm r (2 ^ n * q) ∙ ap (λ x. x + r) (mul_comm (2 ^ n) q)) ∙ ones_cat n q r h)
  where
    digit : (q : ℕ) → q < 2 → cond (eqb (q % 2) 1) (suc (ones r)) (ones r) ≡ ones q + ones r
    digit zero l = sym (zero-add (ones r))
    digit (suc zero) l = let s : suc (ones r) ≡ 1 + ones r = omega arith in s
    digit (suc (suc q)) l = absurd (omega arith)

pub count_ones : (n a : ℕ) → a < 2 ^ n → count n (λ i. eqb (a / 2 ^ i % 2) 1) ≡ ones a
unfolding count ones
count_ones zero a l = let e : 0 ≡ a = omega arith in ap ones e
count_ones (suc n) a l =
    let r = mod-lt a {m = 2 ^ n} (pow_pos n) in
    let q : a / 2 ^ n < 2 = div_below a (2 ^ n) 2 (pow_pos n) (omega arith) in
    let e : a % 2 ^ n + 2 ^ n * (a / 2 ^ n) ≡ a = omega (arith, div-add-mod' a (2 ^ n), mul_comm (2 ^ n) (a / 2 ^ n)) in
    subst (λ x. count (suc n) (λ i. eqb (x / 2 ^ i % 2) 1) ≡ ones x) e (top_bit n (a / 2 ^ n) (a % 2 ^ n) q r (count_ones n (a % 2 ^ n) r))

-- ---- the nets of a set
pub nets_number : (s : NetSet) → Own s → nets_in s ≡ ones (number s)
nets_number s o = count_same 256 (holds s) (λ i. eqb (number s / 2 ^ i % 2) 1) (λ i l. holds_number s o i) ∙ count_ones 256 (number s) (number_below s o)

pub nets_weight : (s : NetSet) → Own s → nets_in s ≡ weight s.words
nets_weight s o = nets_number s o ∙ rank_ones 64 s.words (own_words 4 s.words o)

-- ---- the nets of four words
count_le : (n : ℕ) (p : ℕ → Bool) → count n p ≤ n
unfolding count
count_le zero p = omega arith
count_le (suc n) p = cond_both (p n) (suc (count n p)) (count n p) (λ m. m ≤ suc n) (λ _. let h = count_le n p in omega arith) (λ _. let h = count_le n p in omega arith)

module _ (ws : List ℕ) (l : length ws ≡ 4) (b : (i : ℕ) → get_or ws i 0 < 2 ^ 64) where
  pub nets_sum : nets_in (net_set ws) ≡ sum_by ones ws
  nets_sum = nets_weight (net_set ws) (own_of ws l b) ∙ is_sum_by weight ones refl (λ _ _. refl) ws

  pub few_ones : sum_by ones ws < 2 ^ 32
  few_ones = omega (arith, nets_sum, count_le 256 (holds (net_set ws)))
