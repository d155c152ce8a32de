-- The number that words of k bits make: its bits, its size, and how many of its bits are one. Assumes nothing.
use Rattle.std.proofs.Common.{◌≡◌, ℕ, zero, suc, ◌+◌, ◌-◌, ◌*◌, ◌/◌, ◌%◌, ◌^◌, ◌<◌, List, [], ◌∷◌, length, get_or, sym, refl, ap, ◌∙◌, ap₂, ⊎_elim, mod-eq_of_lt, mul_comm, add_comm, mul-suc, arith, pow_pos, pow-add}
use native.Mathlib.Nat.{div-eq_of_lt, add-div_left, add-mod_left}
use lib.Count.{ones, ones_cat}
use Rattle.std.proofs.lemmas.Nat.Bits.{bit_at-zero, bit_at_cat_low, bit_at_cat_high}
use Rattle.std.proofs.lemmas.Nat.{mul-add-lt}
use Rattle.std.proofs.lemmas.Bool.{cases_lt}
use Rattle.terms.specs.Counts.{rank, weight}

-- each word has k bits
abbrev pub Below : ℕ → List ℕ → Type 0
Below k [] = Unit {0}
Below k (w ∷ ws) = (w < 2 ^ k) × Below k ws

pub below_at : (k : ℕ) (ws : List ℕ) → Below k ws → (i : ℕ) → get_or ws i 0 < 2 ^ k
below_at k [] u i = pow_pos k
below_at k (w ∷ ws) u zero = u.0
below_at k (w ∷ ws) u (suc i) = below_at k ws u.1 i

pub at_below : (k : ℕ) (ws : List ℕ) → ((i : ℕ) → get_or ws i 0 < 2 ^ k) → Below k ws
at_below k [] f = tt
at_below k (w ∷ ws) f = (f 0, at_below k ws (λ i. f (suc i)))

-- ---- its bits
turned : (k w d : ℕ) → w + 2 ^ k * d ≡ d * 2 ^ k + w
turned k w d = add_comm w (2 ^ k * d) ∙ ap (λ x. x + w) (mul_comm (2 ^ k) d)

pub low_bit : (k w d g : ℕ) → g < k → (w + 2 ^ k * d) / 2 ^ g % 2 ≡ w / 2 ^ g % 2
low_bit k w d g l = ap (λ x. x / 2 ^ g % 2) (turned k w d) ∙ bit_at_cat_low d k w g l

pub rank_bit : (k : ℕ) → 0 < k → (ws : List ℕ) → Below k ws → (g : ℕ) → rank k ws / 2 ^ g % 2 ≡ get_or ws (g / k) 0 / 2 ^ (g % k) % 2
rank_bit k p [] u g = bit_at-zero g ∙ sym (bit_at-zero (g % k))
rank_bit k p (w ∷ ws) u g =
    ⊎_elim
    (λ l. low_bit k w (rank k ws) g l ∙ ap₂ (λ i j. get_or (w ∷ ws) i 0 / 2 ^ j % 2) (sym (div-eq_of_lt l)) (sym (mod-eq_of_lt l)))
    (λ l. let h = g - k in
    let e : g ≡ k + h = omega arith in
    let i : g / k ≡ suc (h / k) = ap (λ x. x / k) e ∙ add-div_left h {k = k} p ∙ (let s : h / k + 1 ≡ suc (h / k) = omega arith in s) in
    let j : g % k ≡ h % k = ap (λ x. x % k) e ∙ add-mod_left k h in
    ap (λ x. x / 2 ^ g % 2) (turned k w (rank k ws)) ∙ bit_at_cat_high (rank k ws) k w g u.0 l ∙ rank_bit k p ws u.1 h
    ∙ ap₂ (λ a b. get_or (w ∷ ws) a 0 / 2 ^ b % 2) (sym i) (sym j))
    (cases_lt g k)

-- ---- its size
pub rank_below : (k : ℕ) (ws : List ℕ) → Below k ws → (n : ℕ) → length ws ≡ n → rank k ws < 2 ^ (k * n)
rank_below k [] u n e = pow_pos (k * n)
rank_below k (w ∷ ws) u zero e = absurd (omega arith)
rank_below k (w ∷ ws) u (suc n) e =
    let r = rank_below k ws u.1 n (omega arith) in
    let d : 2 ^ (k * suc n) ≡ 2 ^ k * 2 ^ (k * n) = ap (λ x. 2 ^ x) (mul-suc k n ∙ add_comm (k * n) k) ∙ pow-add 2 k (k * n) in
    omega (arith, mul-add-lt (rank k ws) (2 ^ k) w (2 ^ (k * n)) r u.0, mul_comm (rank k ws) (2 ^ k))

-- ---- its one bits
pub rank_ones : (k : ℕ) (ws : List ℕ) → Below k ws → ones (rank k ws) ≡ weight ws
unfolding ones
rank_ones k [] u = refl
rank_ones k (w ∷ ws) u =
    ap ones (add_comm w (2 ^ k * rank k ws) ∙ ap (λ x. x + w) (mul_comm (2 ^ k) (rank k ws))) ∙ ones_cat k (rank k ws) w u.0
    ∙ ap (λ x. x + ones w) (rank_ones k ws u.1) ∙ add_comm (weight ws) (ones w)
