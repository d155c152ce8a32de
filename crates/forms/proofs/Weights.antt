-- The one bits of an input, and the sets that it covers. Assumes nothing.
use Rattle.std.proofs.Common.{◌≡◌, ℕ, zero, suc, ◌-◌, ◌*◌, ◌/◌, ◌%◌, ◌^◌, ◌<◌, ◌≤◌, true, not, ◌||◌, eqb, ltb, List, length, get_or, sym, ap, ◌∙◌, subst, ⊎_elim, mul-le-mul_right, arith, pow_pos, pow_mono}
use native.Mathlib.Nat.{zero-div}
use Rattle.std.proofs.lemmas.Nat.{le-div}
use Rattle.std.proofs.lemmas.List.{get_or_past}
use Rattle.std.proofs.lemmas.Bool.{cases_lt, cases_Bool, cond_both, true≢false}
use Rattle.terms.specs.Counts.{count, nets_in, weight, rank}
use Rattle.terms.specs.Exps.{limit, tops_for}
use Rattle.terms.specs.Sets.{holds, Own, Within}
use Rattle.terms.specs.Values.{set_on, bit_at}
use Rattle.terms.specs.declared.nets.NetSet.{NetSet}
use Rattle.terms.specs.BothKinds.{inside_at, inside_length}
use Rattle.terms.proofs.Counts.{count_same, count_more, count_ones}
use Rattle.terms.proofs.Members.{number, number_below, holds_number, laws_of_sets, same_bits, greatest_bit, bit_from_test}
use Rattle.terms.proofs.Ranks.{Below, at_below, rank_bit, rank_below, rank_ones}
use Rattle.terms.proofs.Values.{every_one}
use Rattle.forms.specs.Inputs.{Width, Input, InputOf}

-- ---- the words of an input
limit_below : (k n i : ℕ) → limit (2 ^ k) n i < 2 ^ k
limit_below k n i = cond_both (ltb i n) (2 ^ k - 1) 0 (λ x. x < 2 ^ k) (λ _. omega (arith, pow_pos k)) (λ _. pow_pos k)

pub input_long : (k n : ℕ) (y : List ℕ) → Input k n y → length y ≡ 3
input_long k n y h = inside_length (tops_for (2 ^ k) n) y h

pub input_below : (k n : ℕ) (y : List ℕ) → Input k n y → (i : ℕ) → get_or y i 0 < 2 ^ k
input_below k n y h zero = let l = limit_below k n 0 in omega (arith, inside_at (tops_for (2 ^ k) n) y 0 (omega arith) h)
input_below k n y h (suc zero) = let l = limit_below k n 1 in omega (arith, inside_at (tops_for (2 ^ k) n) y 1 (omega arith) h)
input_below k n y h (suc (suc zero)) = let l = limit_below k n 2 in omega (arith, inside_at (tops_for (2 ^ k) n) y 2 (omega arith) h)
input_below k n y h (suc (suc (suc i))) = subst (λ x. x < 2 ^ k) (sym (get_or_past y (suc (suc (suc i))) 0 (omega (arith, input_long k n y h)))) (pow_pos k)

-- ---- three words of k bits
module _ (k : ℕ) (w : Width k) (y : List ℕ) (long : length y ≡ 3) (small : (i : ℕ) → get_or y i 0 < 2 ^ k) where
  below : Below k y
  below = at_below k y small

  rank_at : (g : ℕ) → eqb (rank k y / 2 ^ g % 2) 1 ≡ bit_at k y g
  rank_at g = ap (λ x. eqb x 1) (rank_bit k w.0 y below g)

  rank_small : rank k y < 2 ^ 256
  rank_small = let l = rank_below k y below 3 long in let h : 2 ^ (k * 3) ≤ 2 ^ 256 = pow_mono {i = k * 3} {j = 256} (omega arith) in omega arith

  pub weight_count : weight y ≡ count 256 (bit_at k y)
  weight_count = sym (rank_ones k y below) ∙ sym (count_ones 256 (rank k y) rank_small) ∙ count_same 256 (λ g. eqb (rank k y / 2 ^ g % 2) 1) (bit_at k y) (λ g l. rank_at g)

  -- a set whose nets are all one bits
  module _ (t : NetSet) (o : Own t) (on : set_on (bit_at k y) t ≡ true) where
    covered : (g : ℕ) → holds t g ≡ true → bit_at k y g ≡ true
    covered g h = sym (ap (λ b. not b || bit_at k y g) h) ∙ every_one 256 (λ g. not (holds t g) || bit_at k y g) on g (laws_of_sets.few t o g h)

    pub covered_weight : nets_in t ≤ weight y
    covered_weight = subst (λ x. nets_in t ≤ x) (sym weight_count) (count_more 256 (holds t) (bit_at k y) covered)

    pub covered_rank : number t ≤ rank k y
    covered_rank =
        ⊎_elim
        (λ l.
        let r = greatest_bit 256 (rank k y) (number t) rank_small (number_below t o) l in
        let has : holds t r.0 ≡ true = holds_number t o r.0 ∙ ap (λ x. eqb x 1) r.1.has in
        absurd (true≢false (sym (covered r.0 has) ∙ sym (rank_at r.0) ∙ ap (λ x. eqb x 1) r.1.lacks)))
        (λ l. l)
        (cases_lt (rank k y) (number t))

-- ---- the input of a set
module _ (k n : ℕ) (w : Width k) (few : n ≤ 3) (s : NetSet) (o : Own s) (in_words_lem : Within (n * k) s) (x : List ℕ) (i : InputOf k s x) where
  pub all_bits : (g : ℕ) → bit_at k x g ≡ holds s g
  all_bits g =
      ⊎_elim (i.bits g)
      (λ l.
      let past : 3 ≤ g / k = le-div 3 g k w.0 l in
      let most : n * k ≤ 3 * k = mul-le-mul_right k few in
      ap (λ y. eqb (y / 2 ^ (g % k) % 2) 1) (get_or_past x (g / k) 0 (omega (arith, i.long))) ∙ ap (λ y. eqb (y % 2) 1) (zero-div (2 ^ (g % k)))
      ∙ sym (⊎_elim (λ t. absurd (let h = in_words_lem g t in omega arith)) (λ f. f) (cases_Bool (holds s g))))
      (cases_lt g (3 * k))

  pub weight_nets : weight x ≡ nets_in s
  weight_nets = weight_count k w x i.long i.below ∙ count_same 256 (bit_at k x) (holds s) (λ g l. all_bits g)

  pub rank_number : rank k x ≡ number s
  rank_number =
      same_bits 256 (rank k x) (number s) (rank_small k w x i.long i.below) (number_below s o)
      (λ g. bit_from_test (rank k x / 2 ^ g) (number s / 2 ^ g) (rank_at k w x i.long i.below g ∙ all_bits g ∙ holds_number s o g))
