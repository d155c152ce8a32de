-- The set of one net, a net taken out of a set, and the greatest net of a set. Assumes nothing.
use Rattle.std.proofs.Common.{◌≡◌, ℕ, zero, suc, ◌+◌, ◌-◌, ◌*◌, ◌/◌, ◌%◌, ◌^◌, ◌<◌, ◌≤◌, min, Bool, true, false, not, ◌&&◌, ◌||◌, eqb, leb, List, [], ◌∷◌, length, get_or, set, replicate, sym, refl, ap, ◌∙◌, subst, ap₂, ⊎_elim, mod-lt, div-add-mod', arith, pow_pos, pow_mono}
use native.Mathlib.Nat.{div-eq_of_lt, div-eq_of_lt-le, zero-div}
use lib.Bits.{bit_and, and_lt}
use mir.Syntax.{w64}
use Rattle.std.specs.Int.{bit_at}
use Rattle.std.proofs.lemmas.Bool.Decides.{nat_tests}
use Rattle.std.proofs.lemmas.Nat.Bits.{bit_at_and, bit_at_not, bit_at-lt, bit_at-pow_same, bit_at-pow_other}
use lib.Pow.{pow-lt}
use Rattle.std.proofs.lemmas.List.{get_or-set_same, get_or-set_other, length-set}
use Rattle.std.proofs.lemmas.Nat.{div_below, one_shl, div-mul-add, mod-mul-add}
use Rattle.std.proofs.Math.Bool.{and-true, or-false}
use Rattle.std.proofs.lemmas.Bool.{cases_eq, eq-eqb, ne_eqb, and_from, le-leb}
use Rattle.terms.specs.Numbers.{inside}
use Rattle.terms.specs.Nets.{full_words}
use Rattle.terms.specs.Sets.{holds, Own, SetOf, Without, Top}
use Rattle.terms.specs.declared.nets.NetSet.{NetSet}
use Rattle.terms.specs.Counts.{net_set}
use Rattle.terms.specs.BothKinds.{inside_length}
use Rattle.terms.proofs.Members.{own_words}
use Rattle.terms.proofs.Ranks.{below_at}

-- ---- bits of a number
abbrev pub bit : ℕ → ℕ → Bool
bit a i = eqb (a / 2 ^ i % 2) 1

-- bit m of 2 ^ k
pow_bit : (k m : ℕ) → bit (2 ^ k) m ≡ eqb m k
pow_bit k m =
    ⊎_elim
    (λ e. ap (λ i. bit (2 ^ k) i) e ∙ ap (λ x. eqb x 1) (bit_at-pow_same k) ∙ sym (eq-eqb m k e))
    (λ d. ap (λ x. eqb x 1) (bit_at-pow_other k m d) ∙ sym (ne_eqb m k d))
    (cases_eq m k)

minus_test : (x y : ℕ) → x < 2 → y < 2 → eqb (min x (1 - y)) 1 ≡ (eqb x 1 && not (eqb y 1))
minus_test x y p q = grind (arith, nat_tests)

-- the bits of a word that another lacks
pub minus_at : (w b i : ℕ) → b < 2 ^ 64 → i < 64 → bit (bit_and w (2 ^ 64 - 1 - b)) i ≡ (bit w i && not (bit b i))
minus_at w b i l m =
    ap (λ x. eqb x 1) (bit_at_and w (2 ^ 64 - 1 - b) i ∙ ap (min (bit_at w i)) (bit_at_not w64 b i l m)) ∙ minus_test (bit_at w i) (bit_at b i) (bit_at-lt w i) (bit_at-lt b i)

-- a word with bit k cleared
abbrev cleared : ℕ → ℕ → ℕ
cleared w k = bit_and w (2 ^ 64 - 1 - 2 ^ k)

cleared_at : (w k i : ℕ) → k < 64 → i < 64 → bit (cleared w k) i ≡ (bit w i && not (eqb i k))
cleared_at w k i l m = minus_at w (2 ^ k) i (pow-lt {i = k} {j = 64} l) m ∙ ap (λ b. bit w i && not b) (pow_bit k i)

-- ---- a word written into a set
same_place : (g h : ℕ) → h / 64 ≡ g / 64 → eqb (h % 64) (g % 64) ≡ eqb h g
same_place g h e =
    ⊎_elim
    (λ q. eq-eqb (h % 64) (g % 64) q ∙ sym (eq-eqb h g (omega (arith, div-add-mod' g 64, div-add-mod' h 64))))
    (λ d. ne_eqb (h % 64) (g % 64) d ∙ sym (ne_eqb h g (λ q. d (ap (λ x. x % 64) q))))
    (cases_eq (h % 64) (g % 64))

-- four words of 64 bits
pub own_of : (ws : List ℕ) → length ws ≡ 4 → ((i : ℕ) → get_or ws i 0 < 2 ^ 64) → Own (net_set ws)
own_of ws l f = go 4 ws l f
  where
    go : (n : ℕ) (ws : List ℕ) → length ws ≡ n → ((i : ℕ) → get_or ws i 0 < 2 ^ 64) → inside (replicate n (2 ^ 64 - 1)) ws ≡ true
    go zero [] e f = refl
    go zero (w ∷ ws) e f = absurd (omega arith)
    go (suc n) [] e f = absurd (omega arith)
    go (suc n) (w ∷ ws) e f =
        and_from (leb w (2 ^ 64 - 1)) (inside (replicate n (2 ^ 64 - 1)) ws) (le-leb w (2 ^ 64 - 1) (omega (arith, f 0))) (go n ws (omega arith) (λ i. f (suc i)))

set_at : (ws : List ℕ) (i x k : ℕ) → ((j : ℕ) → get_or ws j 0 < 2 ^ 64) → x < 2 ^ 64 → get_or (set ws i x) k 0 < 2 ^ 64
set_at [] i x k f l = pow_pos 64
set_at (w ∷ ws) zero x zero f l = l
set_at (w ∷ ws) zero x (suc k) f l = f (suc k)
set_at (w ∷ ws) (suc i) x zero f l = f 0
set_at (w ∷ ws) (suc i) x (suc k) f l = set_at ws i x k (λ j. f (suc j)) l

set_own : (ws : List ℕ) (i x : ℕ) → length ws ≡ 4 → ((j : ℕ) → get_or ws j 0 < 2 ^ 64) → x < 2 ^ 64 → Own (net_set (set ws i x))
set_own ws i x l f m = own_of (set ws i x) (length-set ws i x ∙ l) (λ k. set_at ws i x k f m)

here : (ws : List ℕ) (g h x : ℕ) → g < 256 → length ws ≡ 4 → h / 64 ≡ g / 64 → holds (net_set (set ws (g / 64) x)) h ≡ bit x (h % 64)
here ws g h x l n e =
    let i : g / 64 < length ws = omega (arith, div_below g 64 4 (omega arith) (omega arith)) in
    ap (λ w. bit w (h % 64)) (ap (λ k. get_or (set ws (g / 64) x) k 0) e ∙ get_or-set_same ws (g / 64) x 0 i)

elsewhere : (ws : List ℕ) (g h x : ℕ) → (h / 64 ≡ g / 64 → ⊥) → holds (net_set (set ws (g / 64) x)) h ≡ holds (net_set ws) h
elsewhere ws g h x d = ap (λ w. bit w (h % 64)) (get_or-set_other ws (g / 64) (h / 64) x 0 d)

-- ---- the set of one net
abbrev zeros : List ℕ
zeros = 0 ∷ (0 ∷ (0 ∷ (0 ∷ [])))

zeros_at : (i : ℕ) → get_or zeros i 0 ≡ 0
zeros_at zero = refl
zeros_at (suc zero) = refl
zeros_at (suc (suc zero)) = refl
zeros_at (suc (suc (suc zero))) = refl
zeros_at (suc (suc (suc (suc i)))) = refl

low : (g : ℕ) → g % 64 < 64
low g = mod-lt g {m = 64} (omega arith)

-- what `of_net` makes
abbrev pub single : ℕ → NetSet
single g = net_set (set (0 ∷ (0 ∷ (0 ∷ (0 ∷ [])))) (g / 64) ((1 * 2 ^ (g % 64)) % 2 ^ 64))

pub single_net : (g : ℕ) → g < 256 → SetOf (g ∷ []) (single g)
single_net g l =
    subst (λ x. SetOf (g ∷ []) (net_set (set zeros (g / 64) x))) (sym (one_shl (g % 64) 64 (low g))) (record {
      own = set_own zeros (g / 64) (2 ^ (g % 64)) refl (λ j. subst (λ x. x < 2 ^ 64) (sym (zeros_at j)) (pow_pos 64)) (pow-lt {i = g % 64} {j = 64} (low g));
      members = λ h. ⊎_elim
          (λ e. here zeros g h (2 ^ (g % 64)) l refl e ∙ pow_bit (g % 64) (h % 64) ∙ same_place g h e ∙ sym (or-false (eqb h g)))
          (λ d. elsewhere zeros g h (2 ^ (g % 64)) d ∙ ap (λ w. bit w (h % 64)) (zeros_at (h / 64)) ∙ ap (λ x. eqb (x % 2) 1) (zero-div (2 ^ (h % 64)))
          ∙ sym (ap (λ b. b || false) (ne_eqb h g (λ q. d (ap (λ n. n / 64) q)))))
          (cases_eq (h / 64) (g / 64));
    })

-- ---- a net taken out
-- what `without` writes
pub net_out : (ws : List ℕ) (g : ℕ) → g < 256 → length ws ≡ 4 → ((i : ℕ) → get_or ws i 0 < 2 ^ 64)
    → Without (net_set ws) g (net_set (set ws (g / 64) (bit_and (get_or ws (g / 64) 0) (2 ^ 64 - 1 - (1 * 2 ^ (g % 64)) % 2 ^ 64))))
net_out ws g l n f =
    let w = get_or ws (g / 64) 0 in
    let k = g % 64 in
    let small : 2 ^ 64 - 1 - 2 ^ k < 2 ^ 64 = omega (arith, pow_pos k) in
    subst (λ x. Without (net_set ws) g (net_set (set ws (g / 64) (bit_and (get_or ws (g / 64) 0) (2 ^ 64 - 1 - x))))) (sym (one_shl k 64 (low g))) (record {
      own = set_own ws (g / 64) (cleared w k) n f (and_lt 64 w (2 ^ 64 - 1 - 2 ^ k) (f (g / 64)) small);
      members = λ h. ⊎_elim
          (λ e. here ws g h (cleared w k) l n e ∙ cleared_at w k (h % 64) (low g) (low h)
          ∙ ap₂ (λ a b. bit a (h % 64) && not b) (ap (λ i. get_or ws i 0) (sym e)) (same_place g h e))
          (λ d. elsewhere ws g h (cleared w k) d ∙ sym (and-true (holds (net_set ws) h))
          ∙ ap (λ b. holds (net_set ws) h && not b) (sym (ne_eqb h g (λ q. d (ap (λ i. i / 64) q)))))
          (cases_eq (h / 64) (g / 64));
    })

pub taken_out : (s : NetSet) (g : ℕ) → g < 256 → Own s → (x : NetSet) × Without s g x
taken_out s g l o = (_, net_out s.words g l (inside_length full_words s.words o) (below_at 64 s.words (own_words 4 s.words o)))

-- ---- the greatest net
-- the highest bit of the highest word that is not 0
pub top_net : (ws : List ℕ) (i j : ℕ) → j < 64 → 2 ^ j ≤ get_or ws i 0 → get_or ws i 0 < 2 ^ suc j → ((k : ℕ) → i < k → get_or ws k 0 ≡ 0) → Top (net_set ws) (i * 64 + j)
top_net ws i j l low_end high_end zero_above = record {
  has =
      ap₂ (λ m n. eqb (get_or ws m 0 / 2 ^ n % 2) 1) (div-mul-add i 64 j l) (mod-mul-add i 64 j l)
      ∙ ap (λ x. eqb (x % 2) 1) (div-eq_of_lt-le {k = 1} (2 ^ j) {m = get_or ws i 0} (omega arith) (omega (arith, pow_two)));
  above = above;
}
  where
    pow_two : 2 ^ suc j ≡ 2 * 2 ^ j
    pow_two = omega arith

    above : (h : ℕ) → i * 64 + j < h → holds (net_set ws) h ≡ false
    above h m =
        let s = div-add-mod' h 64 in
        let r = mod-lt h {m = 64} (omega arith) in
        ⊎_elim
        (λ e.
        let k : suc j ≤ h % 64 = omega arith in
        let p : 2 ^ suc j ≤ 2 ^ (h % 64) = pow_mono {i = suc j} {j = h % 64} k in
        let q : get_or ws i 0 < 2 ^ (h % 64) = omega arith in
        ap (λ n. eqb (get_or ws n 0 / 2 ^ (h % 64) % 2) 1) (sym e) ∙ ap (λ x. eqb (x % 2) 1) (div-eq_of_lt q))
        (λ d. no_bit h (zero_above (h / 64) (omega arith)))
        (cases_eq i (h / 64))
      where
        no_bit : (h : ℕ) → get_or ws (h / 64) 0 ≡ 0 → holds (net_set ws) h ≡ false
        no_bit h e = ap (λ w. eqb (w / 2 ^ (h % 64) % 2) 1) e ∙ ap (λ x. eqb (x % 2) 1) (zero-div (2 ^ (h % 64)))
