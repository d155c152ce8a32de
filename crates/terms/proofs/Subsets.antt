-- Subsets word by word, and the sets of the first 64 nets. Assumes nothing.
use Rattle.std.proofs.Common.{◌≡◌, ℕ, zero, suc, ◌+◌, ◌-◌, ◌*◌, ◌/◌, ◌%◌, ◌^◌, ◌<◌, ◌≤◌, Bool, true, false, not, ◌&&◌, ◌||◌, eqb, List, [], ◌∷◌, length, get_or, sym, refl, ap, ◌∙◌, subst, ap₂, ⊎_elim, mod-lt, mod-eq_of_lt, div-add-mod', arith, pow_pos}
use native.Mathlib.Nat.{div-eq_of_lt, zero-div}
use lib.Bits.{bit_and, and_lt, and_zero_l}
use Rattle.std.specs.Bool.{MatchBool}
use Rattle.std.specs.List.{zip, AllWithin, HoldsAt}
use Rattle.std.proofs.lemmas.List.{get_or_past}
use Rattle.std.proofs.lemmas.Slice.Zip.{get_or-zip, length-zip}
use Rattle.std.proofs.lemmas.Nat.{div-mul-add, mod-mul-add}
use Rattle.std.proofs.lemmas.Nat.Bits.{bit_at_above}
use Rattle.std.proofs.lemmas.Bool.{cases_lt, cases_Bool, true≢false, false≢true}
use Rattle.terms.specs.Sets.{holds}
use Rattle.terms.specs.Values.{set_on}
use Rattle.terms.specs.Counts.{net_set}
use Rattle.terms.proofs.Changes.{bit, minus_at}
use Rattle.terms.proofs.Members.{same_bits, zero_bit}
use Rattle.terms.proofs.Values.{every_all, every_one}

-- a bit past the end of a number
pub past_bit : (n a i : ℕ) → a < 2 ^ n → n ≤ i → a / 2 ^ i % 2 ≡ 0
past_bit n a i l h = bit_at_above a n i l h

-- the bits of a that b lacks
abbrev pub lacked : ℕ → ℕ → ℕ
lacked a b = bit_and a (2 ^ 64 - 1 - b)

implied : (x y : Bool) → (x && not y) ≡ false → (not x || y) ≡ true
implied true true e = refl
implied true false e = absurd (true≢false e)
implied false y e = refl

denied : (x y : Bool) → (not x || y) ≡ true → (x && not y) ≡ false
denied true true e = refl
denied true false e = absurd (false≢true e)
denied false y e = refl

none_lacked : (a b i : ℕ) → a < 2 ^ 64 → b < 2 ^ 64 → lacked a b ≡ 0 → (not (bit a i) || bit b i) ≡ true
none_lacked a b i la lb e =
    ⊎_elim
    (λ l. implied (bit a i) (bit b i) (sym (minus_at a b i lb l) ∙ ap (λ x. bit x i) e ∙ ap (λ x. eqb (x % 2) 1) (zero-div (2 ^ i))))
    (λ l. ap (λ x. not (eqb x 1) || bit b i) (past_bit 64 a i la l))
    (cases_lt i 64)

all_within : (a b : ℕ) → a < 2 ^ 64 → b < 2 ^ 64 → ((i : ℕ) → i < 64 → (not (bit a i) || bit b i) ≡ true) → lacked a b ≡ 0
all_within a b la lb f =
    let small : lacked a b < 2 ^ 64 = and_lt 64 a (2 ^ 64 - 1 - b) la (omega arith) in
    same_bits 64 (lacked a b) 0 small (pow_pos 64)
    (λ i. ⊎_elim
    (λ l. zero_bit (lacked a b / 2 ^ i) (minus_at a b i lb l ∙ denied (bit a i) (bit b i) (f i l)) ∙ sym (ap (λ x. x % 2) (zero-div (2 ^ i))))
    (λ l. past_bit 64 (lacked a b) i small l ∙ sym (ap (λ x. x % 2) (zero-div (2 ^ i))))
    (cases_lt i 64))

module _ (xs ys : List ℕ) (bx : (i : ℕ) → get_or xs i 0 < 2 ^ 64) (by : (i : ℕ) → get_or ys i 0 < 2 ^ 64) where
  -- no word has a net that the other lacks
  pub subset_yes : ((j : ℕ) → lacked (get_or xs j 0) (get_or ys j 0) ≡ 0) → set_on (holds (net_set ys)) (net_set xs) ≡ true
  subset_yes e = every_all 256 (λ g. not (holds (net_set xs) g) || holds (net_set ys) g) (λ g. none_lacked (get_or xs (g / 64) 0) (get_or ys (g / 64) 0) (g % 64) (bx (g / 64)) (by (g / 64)) (e (g / 64)))

  -- some word has one
  pub subset_no : (j : ℕ) → j < 4 → (lacked (get_or xs j 0) (get_or ys j 0) ≡ 0 → ⊥) → set_on (holds (net_set ys)) (net_set xs) ≡ false
  subset_no j h d =
      ⊎_elim
      (λ t. absurd (d (all_within (get_or xs j 0) (get_or ys j 0) (bx j) (by j)
      (λ i l.
      let at : j * 64 + i < 256 = omega arith in
      ap₂ (λ m n. not (eqb (get_or xs m 0 / 2 ^ n % 2) 1) || eqb (get_or ys m 0 / 2 ^ n % 2) 1) (sym (div-mul-add j 64 i l)) (sym (mod-mul-add j 64 i l))
      ∙ every_one 256 (λ g. not (holds (net_set xs) g) || holds (net_set ys) g) t (j * 64 + i) at))))
      (λ f. f)
      (cases_Bool (set_on (holds (net_set ys)) (net_set xs)))

-- what a test of each pair of words says
abbrev pub Covered : ℕ × ℕ → Type 0
Covered p = lacked p.0 p.1 ≡ 0

module _ (xs ys : List ℕ) (lx : length xs ≡ 4) (ly : length ys ≡ 4) (bx : (i : ℕ) → get_or xs i 0 < 2 ^ 64) (by : (i : ℕ) → get_or ys i 0 < 2 ^ 64) where
  pair : (j : ℕ) → j < 4 → get_or (zip xs ys) j (0, 0) ≡ (get_or xs j 0, get_or ys j 0)
  pair j h = get_or-zip xs ys j (0, 0) (omega arith) (omega arith)

  pub subset_tested : (r : Bool) → MatchBool r (AllWithin Covered (zip xs ys) 0 (length (zip xs ys))) ((k : ℕ) × (k < length (zip xs ys)) × HoldsAt (λ p. Covered p → ⊥) (zip xs ys) k) → r ≡ set_on (holds (net_set ys)) (net_set xs)
  subset_tested true h =
      sym (subset_yes xs ys bx by (λ j. ⊎_elim
      (λ l. subst Covered (pair j l) (h j (0, 0) (omega arith) (omega (arith, length-zip xs ys))))
      (λ l. ap (λ x. lacked x (get_or ys j 0)) (get_or_past xs j 0 (omega arith)) ∙ and_zero_l (2 ^ 64 - 1 - get_or ys j 0))
      (cases_lt j 4)))
  subset_tested false h =
      let l : h.0 < 4 = omega (arith, h.1, length-zip xs ys) in
      sym (subset_no xs ys bx by h.0 l (λ e. h.2 (0, 0) (subst Covered (sym (pair h.0 l)) e)))

-- ---- the first 64 nets
abbrev pub low_words : ℕ → List ℕ
low_words a = a ∷ (0 ∷ (0 ∷ (0 ∷ [])))

low_past : (a i : ℕ) → get_or (low_words a) (suc i) 0 ≡ 0
low_past a zero = refl
low_past a (suc zero) = refl
low_past a (suc (suc zero)) = refl
low_past a (suc (suc (suc i))) = refl

pub first_word : (xs : List ℕ) (g : ℕ) → g < 64 → bit (get_or xs 0 0) g ≡ holds (net_set xs) g
first_word xs g l = sym (ap₂ (λ i j. bit (get_or xs i 0) j) (div-eq_of_lt l) (mod-eq_of_lt l))

pub low_members : (a : ℕ) → a < 2 ^ 64 → (g : ℕ) → holds (net_set (low_words a)) g ≡ bit a g
low_members a l g =
    ⊎_elim
    (λ h. sym (first_word (low_words a) g h))
    (λ h. let some : suc (g / 64 - 1) ≡ g / 64 = omega (arith, div-add-mod' g 64, mod-lt g {m = 64} (omega arith)) in
    ap (λ w. bit w (g % 64)) (sym (ap (λ i. get_or (low_words a) i 0) some) ∙ low_past a (g / 64 - 1)) ∙ ap (λ x. eqb (x % 2) 1) (zero-div (2 ^ (g % 64)))
    ∙ sym (ap (λ x. eqb x 1) (past_bit 64 a g l h)))
    (cases_lt g 64)
