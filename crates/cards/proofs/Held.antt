-- A set's value at input words, by the list of the bits that it holds. Assumes nothing.
use Rattle.std.proofs.Common.{◌≡◌, ℕ, zero, suc, ◌+◌, ◌/◌, ◌%◌, ◌<◌, ◌≤◌, Bool, true, false, cond, not, ◌||◌, List, [], ◌∷◌, get_or, sym, refl, ap, ◌∙◌, subst, ap₂, ⊎_elim, arith}
use lib.Bits.{bit_xor}
use Rattle.std.proofs.lemmas.Bool.{cases_Bool, cases_eq, cond-true, cond-false, cond_both, and_parts, and_from, true≢false}
use Rattle.algebra.specs.Theorems.{all_ones}
use Rattle.algebra.proofs.Digits.{bit_b, one_bit}
use Rattle.terms.specs.Sets.{holds, Within}
use Rattle.terms.specs.Terms.{Monos, value}
use Rattle.terms.specs.Values.{set_on, value_under, bit_at}
use Rattle.terms.specs.declared.Term.{Term}
use Rattle.terms.specs.declared.nets.NetSet.{NetSet}
use Rattle.terms.proofs.Values.{every_all, every_one}

-- the bits that a set holds, as a word and a place in it, among `count` nets from net p on
abbrev pub held_bits : ℕ → (ℕ → Bool) → ℕ → ℕ → List (ℕ × ℕ)
held_bits k held p zero = []
held_bits k held p (suc count) = cond (held p) ((p / k, p % k) ∷ held_bits k held (suc p) count) (held_bits k held (suc p) count)

-- all of these bits are ones where each net that is held has a one bit
module _ (k : ℕ) (held : ℕ → Bool) (xs : List ℕ) where
  ones_from : (p count : ℕ) → ((g : ℕ) → p ≤ g → g < p + count → held g ≡ true → bit_at k xs g ≡ true) → all_ones (held_bits k held p count) xs ≡ true
  ones_from p zero h = refl
  ones_from p (suc count) h =
      let rest = ones_from (suc p) count (λ g l r. h g (omega arith) (omega arith)) in
      cond_both (held p) ((p / k, p % k) ∷ held_bits k held (suc p) count) (held_bits k held (suc p) count) (λ bs. all_ones bs xs ≡ true)
      (λ e. and_from (bit_b (get_or xs (p / k) 0) (p % k)) _ (sym (one_bit (get_or xs (p / k) 0) (p % k)) ∙ h p (omega arith) (omega arith) e) rest)
      (λ _. rest)

  ones_at : (p count : ℕ) → all_ones (held_bits k held p count) xs ≡ true → (g : ℕ) → p ≤ g → g < p + count → held g ≡ true → bit_at k xs g ≡ true
  ones_at p zero e g l r h = absurd (omega arith)
  ones_at p (suc count) e g l r h =
      let rest = held_bits k held (suc p) count in
      let more = (p / k, p % k) ∷ rest in
      ⊎_elim
      (λ (b : held p ≡ true).
      let both = and_parts (bit_b (get_or xs (p / k) 0) (p % k)) (all_ones rest xs) (ap (λ bs. all_ones bs xs) (sym (cond-true (held p) more rest b)) ∙ e) in
      ⊎_elim
      (λ (q : g ≡ p). subst (λ (i : ℕ). bit_at k xs i ≡ true) (sym q) (one_bit (get_or xs (p / k) 0) (p % k) ∙ both.0))
      (λ d. ones_at (suc p) count both.1 g (omega arith) (omega arith) h)
      (cases_eq g p))
      (λ (b : held p ≡ false).
      ⊎_elim
      (λ (q : g ≡ p). absurd (true≢false (sym h ∙ ap held q ∙ b)))
      (λ d. ones_at (suc p) count (ap (λ bs. all_ones bs xs) (sym (cond-false (held p) more rest b)) ∙ e) g (omega arith) (omega arith) h)
      (cases_eq g p))
      (cases_Bool (held p))

-- tests that hold together are the same
pub together : (a b : Bool) → (a ≡ true → b ≡ true) → (b ≡ true → a ≡ true) → a ≡ b
together true b f g = sym (f refl)
together false true f g = g refl
together false false f g = refl

pub then_on : (a b : Bool) → (a ≡ true → b ≡ true) → (not a || b) ≡ true
then_on true b f = f refl
then_on false b f = refl

pub on_then : (a b : Bool) → (not a || b) ≡ true → a ≡ true → b ≡ true
on_then true b e h = e
on_then false b e h = absurd (true≢false (sym h))

-- a set of nets that are bits of words
on_held : (k places : ℕ) (xs : List ℕ) (s : NetSet) → places ≤ 256 → Within places s → set_on (bit_at k xs) s ≡ all_ones (held_bits k (holds s) 0 places) xs
on_held k places xs s few w =
    together (set_on (bit_at k xs) s) (all_ones (held_bits k (holds s) 0 places) xs)
    (λ e. ones_from k (holds s) xs 0 places (λ g l r. on_then (holds s g) (bit_at k xs g) (every_one 256 (λ g. not (holds s g) || bit_at k xs g) e g (omega arith))))
    (λ e. every_all 256 (λ g. not (holds s g) || bit_at k xs g) (λ g. then_on (holds s g) (bit_at k xs g) (λ h. let l = w g h in ones_at k (holds s) xs 0 places e g (omega arith) (omega arith) h)))

pub value_held : (k places : ℕ) (xs : List ℕ) → places ≤ 256 → (ts : List (Term NetSet)) → Monos (Within places) ts
    → value_under (bit_at k xs) ts ≡ value (λ c s. cond (all_ones (held_bits k (holds s) 0 places) xs) c 0) ts
value_held k places xs few [] w = refl
value_held k places xs few (t ∷ ts) w = ap₂ (λ b v. bit_xor (cond b t.code 0) v) (on_held k places xs t.mono few w.0) (value_held k places xs few ts w.1)
