-- Net sets by their members. Assumes nothing.
use Rattle.std.proofs.Common.{◌≡◌, ℕ, zero, suc, ◌+◌, ◌-◌, ◌/◌, ◌%◌, ◌^◌, ◌<◌, ◌≤◌, max, true, false, ◌||◌, ◌⊎◌, inl, inr, eqb, leb, List, [], ◌∷◌, reverse, length, get_or, replicate, sym, refl, ap, ◌∙◌, ap₂, ⊎_elim, mod-lt, arith, pow_mono}
use native.Mathlib.Nat.{div-eq_of_lt, div-eq_of_lt-le, zero-div}
use lib.Bits.{bit_or, bit_xor, xor_lt}
use lib.Count.{leading_top}
use Rattle.std.proofs.Math.Nat.{eq-zero-or-pos}
use Rattle.std.specs.Int.{bit_at}
use Rattle.std.proofs.lemmas.Nat.Bits.{bit_at_lowest, bit_at-suc, bit_at-zero, bit_at_or, bit_at_xor, bit_at-lt, bit_at_above, same_from_bits}
use Rattle.std.proofs.lemmas.Bool.Decides.{nat_tests}
use Rattle.std.proofs.lemmas.Bool.{cases_Bool, cases_lt, true≢false, false≢true, eqb-true, eqb-false, and_parts, leb-true}
use Rattle.terms.specs.Numbers.{lex, inside, paired}
use Rattle.terms.specs.Nets.{net_model, full_words}
use Rattle.terms.specs.declared.nets.NetSet.{NetSet}
use Rattle.terms.proofs.Laws.{lower, higher, level, stands}
use Rattle.terms.specs.BothKinds.{net_laws, as_four, inside_at, inside_length}
use Rattle.terms.specs.Counts.{rank}
use Rattle.terms.specs.Sets.{holds, Own, Greatest, NetLaws}
use Rattle.terms.proofs.Ranks.{Below, rank_bit, rank_below}

-- the number that the words of a set make
abbrev pub number : NetSet → ℕ
number s = rank 64 s.words

pub never : {A : Type 0} → true ≡ false → A
never e = absurd (true≢false e)

-- the highest word that differs decides the order of the numbers
four_less : (a b c d p q r s : ℕ) → a < 2 ^ 64 → b < 2 ^ 64 → c < 2 ^ 64 → d < 2 ^ 64 → p < 2 ^ 64 → q < 2 ^ 64 → r < 2 ^ 64 → s < 2 ^ 64
    → lex (d ∷ (c ∷ (b ∷ (a ∷ [])))) (s ∷ (r ∷ (q ∷ (p ∷ [])))) ≡ true → rank 64 (a ∷ (b ∷ (c ∷ (d ∷ [])))) < rank 64 (p ∷ (q ∷ (r ∷ (s ∷ []))))
four_less a b c d p q r s ha hb hc hd hp hq hr hs e = grind (arith, nat_tests)

word_lt : (xs : List ℕ) (i : ℕ) → i < 4 → inside full_words xs ≡ true → get_or full_words i 0 ≡ 2 ^ 64 - 1 → get_or xs i 0 < 2 ^ 64
word_lt xs i h e f = omega (arith, inside_at full_words xs i h e)

pub number_less : (a b : NetSet) → net_model.own a ≡ true → net_model.own b ≡ true → net_model.less a b ≡ true → number a < number b
number_less a b u v h =
    let x = a.words in
    let y = b.words in
    let ax = as_four x (inside_length full_words x u) in
    let ay = as_four y (inside_length full_words y v) in
    let w : rank 64 (get_or x 0 0 ∷ (get_or x 1 0 ∷ (get_or x 2 0 ∷ (get_or x 3 0 ∷ [])))) < rank 64 (get_or y 0 0 ∷ (get_or y 1 0 ∷ (get_or y 2 0 ∷ (get_or y 3 0 ∷ [])))) =
    four_less (get_or x 0 0) (get_or x 1 0) (get_or x 2 0) (get_or x 3 0) (get_or y 0 0) (get_or y 1 0) (get_or y 2 0) (get_or y 3 0)
    (word_lt x 0 (omega arith) u refl) (word_lt x 1 (omega arith) u refl) (word_lt x 2 (omega arith) u refl) (word_lt x 3 (omega arith) u refl)
    (word_lt y 0 (omega arith) v refl) (word_lt y 1 (omega arith) v refl) (word_lt y 2 (omega arith) v refl) (word_lt y 3 (omega arith) v refl)
    (sym (ap₂ (λ xs ys. lex (reverse xs) (reverse ys)) ax ay) ∙ h) in
    omega (arith, ap (rank 64) ax, ap (rank 64) ay)

pub less_number : (a b : NetSet) → net_model.own a ≡ true → net_model.own b ≡ true → number a < number b → net_model.less a b ≡ true
less_number a b u v h =
    elim (stands net_model net_laws a b) [
      | lower e ↦ e
      | higher e f ↦ absurd (let g = number_less b a v u f in omega arith)
      | level e f q ↦ absurd (let g : number a ≡ number b = ap number q in omega arith)
    ]

-- ---- bits of a number
pub same_bits : (n a b : ℕ) → a < 2 ^ n → b < 2 ^ n → ((i : ℕ) → a / 2 ^ i % 2 ≡ b / 2 ^ i % 2) → a ≡ b
same_bits n a b p q e = same_from_bits a b e

-- g is the greatest bit in which a and b differ, and b has it
pub record TopBit (a b g : ℕ) : Type 0 where
  pub lacks : a / 2 ^ g % 2 ≡ 0
  pub has : b / 2 ^ g % 2 ≡ 1
  pub above : (h : ℕ) → g < h → a / 2 ^ h % 2 ≡ b / 2 ^ h % 2

pub less_bit : (g a b : ℕ) → TopBit a b g → a < b
less_bit zero a b t =
    let e : a / 2 ≡ b / 2 = same_from_bits (a / 2) (b / 2) (λ i. sym (bit_at-suc a i) ∙ t.above (suc i) (omega arith) ∙ bit_at-suc b i) in
    let x : a % 2 ≡ 0 = sym (bit_at_lowest a) ∙ t.lacks in
    let y : b % 2 ≡ 1 = sym (bit_at_lowest b) ∙ t.has in
    omega arith
less_bit (suc g) a b t =
    let r : a / 2 < b / 2 = less_bit g (a / 2) (b / 2) (record {
      lacks = sym (bit_at-suc a g) ∙ t.lacks;
      has = sym (bit_at-suc b g) ∙ t.has;
      above = λ h l. sym (bit_at-suc a h) ∙ t.above (suc h) (omega arith) ∙ bit_at-suc b h;
    }) in
    omega arith

-- bits whose sum by XOR is 0, and 1
level_bits : (x y : ℕ) → x < 2 → y < 2 → (x + y) % 2 ≡ 0 → x ≡ y
level_bits x y p q e = omega arith

unlike_bits : (x y : ℕ) → x < 2 → y < 2 → (x + y) % 2 ≡ 1 → ((x ≡ 0) × (y ≡ 1)) ⊎ ((y ≡ 0) × (x ≡ 1))
unlike_bits zero y p q e = inl (refl, omega arith)
unlike_bits (suc x) y p q e = inr (omega arith, omega arith)

-- it is the highest bit of the sum by XOR
pub greatest_bit : (n a b : ℕ) → a < 2 ^ n → b < 2 ^ n → a < b → (g : ℕ) × TopBit a b g
greatest_bit n a b p q l =
    let x = bit_xor a b in
    let same : (i : ℕ) → bit_at x i ≡ 0 → bit_at a i ≡ bit_at b i = λ i e. level_bits (bit_at a i) (bit_at b i) (bit_at-lt a i) (bit_at-lt b i) (sym (bit_at_xor a b i) ∙ e) in
    let some : 0 < x = ⊎_elim (λ e. absurd (let z : a ≡ b = same_from_bits a b (λ i. same i (ap (λ m. bit_at m i) e ∙ bit_at-zero i)) in omega arith)) (λ h. h) (eq-zero-or-pos x) in
    let t = leading_top n x some (xor_lt n a b p q) in
    let g = t.0 in
    let one : bit_at x g ≡ 1 = ap (λ m. m % 2) (div-eq_of_lt-le {k = 1} (2 ^ g) {m = x} (omega (arith, t.2)) (omega (arith, t.3))) in
    let above : (h : ℕ) → g < h → bit_at a h ≡ bit_at b h = λ h m. same h (bit_at_above x (suc g) h t.3 m) in
    ⊎_elim
    (λ e. (g, record { lacks = e.0; has = e.1; above = above }))
    (λ e. absurd (let m = less_bit g b a (record { lacks = e.0; has = e.1; above = λ h m. sym (above h m) }) in omega arith))
    (unlike_bits (bit_at a g) (bit_at b g) (bit_at-lt a g) (bit_at-lt b g) (sym (bit_at_xor a b g) ∙ one))

-- ---- bits of words
pub own_words : (n : ℕ) (ws : List ℕ) → inside (replicate n (2 ^ 64 - 1)) ws ≡ true → Below 64 ws
own_words n [] e = tt
own_words zero (w ∷ ws) e = absurd (false≢true e)
own_words (suc n) (w ∷ ws) e =
    let b = and_parts (leb w (2 ^ 64 - 1)) (inside (replicate n (2 ^ 64 - 1)) ws) e in
    (omega (arith, leb-true w (2 ^ 64 - 1) b.0), own_words n ws b.1)

pub number_below : (s : NetSet) → Own s → number s < 2 ^ 256
number_below s o = rank_below 64 s.words (own_words 4 s.words o) 4 (inside_length full_words s.words o)

pub holds_number : (s : NetSet) → Own s → (g : ℕ) → holds s g ≡ eqb (number s / 2 ^ g % 2) 1
holds_number s o g = ap (λ x. eqb x 1) (sym (rank_bit 64 (omega arith) s.words (own_words 4 s.words o) g))

-- ---- a bit is 0 or 1
pub bit_from_test : (a b : ℕ) → eqb (a % 2) 1 ≡ eqb (b % 2) 1 → a % 2 ≡ b % 2
bit_from_test a b e =
    let p = mod-lt a {m = 2} (omega arith) in
    let q = mod-lt b {m = 2} (omega arith) in
    ⊎_elim
    (λ t. eqb-true (a % 2) 1 t ∙ sym (eqb-true (b % 2) 1 (sym e ∙ t)))
    (λ f. let x = eqb-false (a % 2) 1 f in let y = eqb-false (b % 2) 1 (sym e ∙ f) in omega arith)
    (cases_Bool (eqb (a % 2) 1))

one_bit : (a : ℕ) → eqb (a % 2) 1 ≡ true → a % 2 ≡ 1
one_bit a e = eqb-true (a % 2) 1 e

pub zero_bit : (a : ℕ) → eqb (a % 2) 1 ≡ false → a % 2 ≡ 0
zero_bit a e = let p = mod-lt a {m = 2} (omega arith) in let x = eqb-false (a % 2) 1 e in omega arith

paired_at : (ls xs ys : List ℕ) (i : ℕ) → length xs ≡ length ls → length ys ≡ length ls → get_or (paired (λ l. bit_or) ls xs ys) i 0 ≡ bit_or (get_or xs i 0) (get_or ys i 0)
paired_at [] [] [] i e f = refl
paired_at [] [] (y ∷ ys) i e f = absurd (omega arith)
paired_at [] (x ∷ xs) ys i e f = absurd (omega arith)
paired_at (l ∷ ls) [] ys i e f = absurd (omega arith)
paired_at (l ∷ ls) (x ∷ xs) [] i e f = absurd (omega arith)
paired_at (l ∷ ls) (x ∷ xs) (y ∷ ys) zero e f = refl
paired_at (l ∷ ls) (x ∷ xs) (y ∷ ys) (suc i) e f = paired_at ls xs ys i (omega arith) (omega arith)

or_test : (x y : ℕ) → x < 2 → y < 2 → eqb (max x y) 1 ≡ (eqb x 1 || eqb y 1)
or_test x y p q = grind (arith, nat_tests)

pub or_at : (a b i : ℕ) → eqb (bit_or a b / 2 ^ i % 2) 1 ≡ (eqb (a / 2 ^ i % 2) 1 || eqb (b / 2 ^ i % 2) 1)
or_at a b i = ap (λ x. eqb x 1) (bit_at_or a b i) ∙ or_test (bit_at a i) (bit_at b i) (bit_at-lt a i) (bit_at-lt b i)

-- ---- the laws of net sets
same_number : (s t : NetSet) → Own s → Own t → number s ≡ number t → s ≡ t
same_number s t os ot e =
    elim (stands net_model net_laws s t) [
      | lower l ↦ absurd (let h = number_less s t os ot l in omega arith)
      | higher n l ↦ absurd (let h = number_less t s ot os l in omega arith)
      | level n m q ↦ q
    ]

members_only : (s t : NetSet) → Own s → Own t → ((g : ℕ) → holds s g ≡ holds t g) → s ≡ t
members_only s t os ot e =
    same_number s t os ot (same_bits 256 (number s) (number t) (number_below s os) (number_below t ot)
    (λ g. bit_from_test (number s / 2 ^ g) (number t / 2 ^ g) (sym (holds_number s os g) ∙ e g ∙ holds_number t ot g)))

members_few : (s : NetSet) → Own s → (g : ℕ) → holds s g ≡ true → g < 256
members_few s o g e =
    ⊎_elim (λ l. l)
    (λ l. let p = number_below s o in
    let q : 2 ^ 256 ≤ 2 ^ g = pow_mono {i = 256} {j = g} l in
    let z : number s / 2 ^ g ≡ 0 = div-eq_of_lt (omega arith) in
    never (sym e ∙ holds_number s o g ∙ ap (λ x. eqb (x % 2) 1) z))
    (cases_lt g 256)

no_members : (g : ℕ) → holds net_model.unit g ≡ false
no_members g = holds_number net_model.unit refl g ∙ ap (λ x. eqb (x % 2) 1) (zero-div (2 ^ g))

members_union : (s t : NetSet) → Own s → Own t → (g : ℕ) → holds (net_model.times s t) g ≡ (holds s g || holds t g)
members_union s t os ot g =
    ap (λ x. eqb (x / 2 ^ (g % 64) % 2) 1) (paired_at full_words s.words t.words (g / 64) (inside_length full_words s.words os) (inside_length full_words t.words ot))
    ∙ or_at (get_or s.words (g / 64) 0) (get_or t.words (g / 64) 0) (g % 64)

members_order : (s t : NetSet) → Own s → Own t → net_model.less s t ≡ true → (g : ℕ) × Greatest s t g
members_order s t os ot l =
    let r = greatest_bit 256 (number s) (number t) (number_below s os) (number_below t ot) (number_less s t os ot l) in (
      r.0,
      record {
        lacks = holds_number s os r.0 ∙ ap (λ x. eqb x 1) r.1.lacks;
        has = holds_number t ot r.0 ∙ ap (λ x. eqb x 1) r.1.has;
        above = λ h m. holds_number s os h ∙ ap (λ x. eqb x 1) (r.1.above h m) ∙ sym (holds_number t ot h);
      },
    )

pub greatest_less : (s t : NetSet) (g : ℕ) → Own s → Own t → Greatest s t g → net_model.less s t ≡ true
greatest_less s t g os ot r =
    less_number s t os ot (less_bit g (number s) (number t) (record {
      lacks = zero_bit (number s / 2 ^ g) (sym (holds_number s os g) ∙ r.lacks);
      has = one_bit (number t / 2 ^ g) (sym (holds_number t ot g) ∙ r.has);
      above = λ h m. bit_from_test (number s / 2 ^ h) (number t / 2 ^ h) (sym (holds_number s os h) ∙ r.above h m ∙ holds_number t ot h);
    }))

pub laws_of_sets : NetLaws
laws_of_sets = record {
  only = members_only;
  few = members_few;
  none = no_members;
  union = members_union;
  order = λ s t os ot. (members_order s t os ot, λ r. greatest_less s t r.0 os ot r.1);
}
