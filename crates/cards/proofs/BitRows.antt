-- Sets of the first N nets are 2^N, so that as many rows suffice. Assumes nothing.
use Rattle.std.proofs.Common.{◌≡◌, ℕ, zero, suc, ◌+◌, ◌-◌, ◌*◌, ◌/◌, ◌%◌, ◌^◌, ◌<◌, ◌≤◌, Bool, true, false, cond, ◌&&◌, eqb, ltb, leb, List, [], ◌∷◌, reverse, get_or, sym, refl, ap, ◌∙◌, subst, subst₂, ⊎_elim, div-lt_iff_lt-mul, arith, pow_pos, pow_mono}
use native.Mathlib.Nat.{div-eq_of_lt, zero-div}
use lib.Arith.{digits_lt}
use lib.Bits.{bit_or, or_lt}
use lib.Pow.{pow-lt, le_ones}
use Rattle.std.proofs.lemmas.Bool.{le-leb, leb-true, ltb-true, and_parts, and_from, cond-false, cond_both, cases_Bool, eqb-true, true≢false}
use Rattle.algebra.specs.Field.{FieldData, FieldLaws, product}
use Rattle.algebra.specs.Terms as A
use Rattle.algebra.proofs.Reduce.{lt_or_le}
use Rattle.terms.specs.Nets.{net_model, full_words}
use Rattle.terms.specs.Sets.{Within}
use Rattle.terms.specs.Numbers.{lex, inside, paired}
use Rattle.terms.specs.Terms.{Monos, Falling}
use Rattle.terms.specs.declared.Term.{Term}
use Rattle.terms.specs.declared.nets.NetSet.{NetSet}
use Rattle.terms.specs.BothKinds.{net_laws}
use Rattle.convert.specs.Convert.{Converted, finished}
use Rattle.convert.specs.Places.{row_held}
use Rattle.convert.proofs.Enough.{Counted, converting_ends}
use Rattle.convert.proofs.More.{more_rows}
use Rattle.convert.proofs.Steps.{monos_append}
use Rattle.cards.specs.BitsWorking.{word_factors, bits_working}
use Rattle.cards.specs.Sums.{word_sum}
use Rattle.cards.proofs.CardLaw.{chosen_all}

abbrev low_words : ℕ → List ℕ → Bool
low_words N ws = inside ((2 ^ N - 1) ∷ (0 ∷ (0 ∷ (0 ∷ [])))) ws

pub record Low (N : ℕ) (ws : List ℕ) : Type 0 where
  pub word : ℕ
  pub below : word < 2 ^ N
  pub is : ws ≡ word ∷ (0 ∷ (0 ∷ (0 ∷ [])))

zero_of : (x : ℕ) → leb x 0 ≡ true → x ≡ 0
zero_of x h = let u : x ≤ 0 = leb-true x 0 h in omega arith

low : (N : ℕ) (ws : List ℕ) → low_words N ws ≡ true → Low N ws
low N [] h = absurd (true≢false (sym h))
low N (a ∷ []) h = absurd (true≢false (sym (and_parts (leb a (2 ^ N - 1)) false h).1))
low N (a ∷ (b ∷ [])) h = absurd (true≢false (sym (and_parts (leb b 0) false (and_parts (leb a (2 ^ N - 1)) (leb b 0 && false) h).1).1))
low N (a ∷ (b ∷ (c ∷ []))) h =
    absurd (true≢false (sym (and_parts (leb c 0) false (and_parts (leb b 0) (leb c 0 && false) (and_parts (leb a (2 ^ N - 1)) (leb b 0 && (leb c 0 && false)) h).1).1).1))
low N (a ∷ (b ∷ (c ∷ (d ∷ [])))) h =
    let p = and_parts (leb a (2 ^ N - 1)) (leb b 0 && (leb c 0 && (leb d 0 && true))) h in
    let q = and_parts (leb b 0) (leb c 0 && (leb d 0 && true)) p.1 in
    let r = and_parts (leb c 0) (leb d 0 && true) q.1 in
    let s = and_parts (leb d 0) true r.1 in
    let u : a ≤ 2 ^ N - 1 = leb-true a (2 ^ N - 1) p.0 in
    let v = pow_pos N in
    record {
      word = a;
      below = omega arith;
      is = subst (λ (x : ℕ). a ∷ (b ∷ (c ∷ (d ∷ []))) ≡ a ∷ (x ∷ (0 ∷ (0 ∷ [])))) (zero_of b q.0)
          (subst (λ (x : ℕ). a ∷ (b ∷ (c ∷ (d ∷ []))) ≡ a ∷ (b ∷ (x ∷ (0 ∷ [])))) (zero_of c r.0) (subst (λ (x : ℕ). a ∷ (b ∷ (c ∷ (d ∷ []))) ≡ a ∷ (b ∷ (c ∷ (x ∷ [])))) (zero_of d s.0) refl));
    }
low N (a ∷ (b ∷ (c ∷ (d ∷ (e ∷ ws))))) h =
    absurd (true≢false (sym (and_parts (leb d 0) false (and_parts (leb c 0) (leb d 0 && false) (and_parts (leb b 0) (leb c 0 && (leb d 0 && false)) (and_parts (leb a (2 ^ N - 1)) (leb b 0 && (leb c 0 && (leb d 0 && false))) h).1).1).1).1))

-- a set of the first N nets alone, N at most 64
abbrev first_nets : ℕ → NetSet → Bool
first_nets N s = low_words N s.words

-- it holds no other net
low_within : (N a g : ℕ) → a < 2 ^ N → eqb (get_or (a ∷ (0 ∷ (0 ∷ (0 ∷ [])))) (g / 64) 0 / 2 ^ (g % 64) % 2) 1 ≡ true → g < N
low_within N a g l h = at (g / 64) refl
  where
    none : (x : ℕ) → x ≡ 0 → eqb (x / 2 ^ (g % 64) % 2) 1 ≡ true → ⊥
    none x z e = let u = eqb-true (x / 2 ^ (g % 64) % 2) 1 e in let v : x / 2 ^ (g % 64) ≡ 0 = ap (λ (y : ℕ). y / 2 ^ (g % 64)) z ∙ zero-div (2 ^ (g % 64)) in omega arith

    rest : (i : ℕ) → ◌≡◌ {A = ℕ} (get_or (0 ∷ (0 ∷ (0 ∷ []))) i 0) 0
    rest zero = refl
    rest (suc zero) = refl
    rest (suc (suc zero)) = refl
    rest (suc (suc (suc i))) = refl

    at : (i : ℕ) → g / 64 ≡ i → g < N
    at zero e =
        ⊎_elim (λ u. u)
        (λ u.
        let same : g % 64 ≡ g = omega arith in
        let small : a < 2 ^ g = omega (arith, pow_mono {i = N} {j = g} u) in
        absurd (let v = eqb-true (a / 2 ^ (g % 64) % 2) 1 (subst (λ (i : ℕ). eqb (get_or (a ∷ (0 ∷ (0 ∷ (0 ∷ [])))) i 0 / 2 ^ (g % 64) % 2) 1 ≡ true) e h) in
        let w : a / 2 ^ (g % 64) ≡ 0 = ap (λ (i : ℕ). a / 2 ^ i) same ∙ div-eq_of_lt small in omega arith))
        (lt_or_le g N)
    at (suc i) e = absurd (none (get_or (0 ∷ (0 ∷ (0 ∷ []))) i 0) (rest i) (subst (λ (i : ℕ). eqb (get_or (a ∷ (0 ∷ (0 ∷ (0 ∷ [])))) i 0 / 2 ^ (g % 64) % 2) 1 ≡ true) e h))

first_within : (N : ℕ) (s : NetSet) → first_nets N s ≡ true → Within N s
first_within N s p g h =
    let x = low N s.words p in
    low_within N x.word g x.below (subst (λ (ws : List ℕ). eqb (get_or ws (g / 64) 0 / 2 ^ (g % 64) % 2) 1 ≡ true) x.is h)

made_low : (N a : ℕ) → a < 2 ^ N → low_words N (a ∷ (0 ∷ (0 ∷ (0 ∷ [])))) ≡ true
made_low N a h = and_from (leb a (2 ^ N - 1)) true (le-leb a (2 ^ N - 1) (le_ones N h)) refl

low_less : (a b : ℕ) → lex (0 ∷ (0 ∷ (0 ∷ (a ∷ [])))) (0 ∷ (0 ∷ (0 ∷ (b ∷ [])))) ≡ true → a < b
low_less a b h =
    ⊎_elim
    (λ u. ltb-true a b u)
    (λ u. absurd (true≢false (sym h ∙ cond-false (ltb a b) true (cond (ltb b a) false false) u ∙ cond_both (ltb b a) false false (λ x. x ≡ false) (λ _. refl) (λ _. refl))))
    (cases_Bool (ltb a b))

nets_counted : (N : ℕ) → Counted net_model (λ s. first_nets N s ≡ true) (2 ^ N)
nets_counted N = record {
  number = λ s. get_or s.words 0 0;
  below = λ a p. let x = low N a.words p in subst (λ (ws : List ℕ). get_or ws 0 0 < 2 ^ N) (sym x.is) x.below;
  rising = λ a b p q h.
      let x = low N a.words p in
      let y = low N b.words q in
      subst₂ (λ (us vs : List ℕ). get_or us 0 0 < get_or vs 0 0) (sym x.is) (sym y.is)
      (low_less x.word y.word (subst₂ (λ (us vs : List ℕ). lex (reverse us) (reverse vs) ≡ true) x.is y.is h));
  unit = made_low N 0 (pow_pos N);
  times = λ a b p q.
      let x = low N a.words p in
      let y = low N b.words q in
      subst₂ (λ (us vs : List ℕ). low_words N (paired (λ l. bit_or) full_words us vs) ≡ true) (sym x.is) (sym y.is) (made_low N (bit_or x.word y.word) (or_lt N x.word y.word x.below y.below));
}

module _ (m : FieldData) (l : FieldLaws m) (n : ℕ) where
  abbrev First : NetSet → Type 0
  First s = first_nets (n * m.width) s ≡ true

  sum_first : (w s : ℕ) → w < n → (j : ℕ) → j ≤ m.width → Monos First (word_sum m w s j)
  sum_first w s h zero u = tt
  sum_first w s h (suc j) u =
      monos_append First (word_sum m w s j) _ (sum_first w s h j (omega arith)) (made_low (n * m.width) (2 ^ (w * m.width + j)) (pow-lt (digits_lt h u)), tt)

  factors_first : (r : List ℕ) → A.All (Monos First) (word_factors m n r)
  factors_first r =
      let wp : 0 < m.width = let h = l.narrow in omega arith in
      chosen_all (Monos First) (row_held m.width r) (λ p. word_sum m (p / m.width) (p % m.width) m.width) (n * m.width)
      (λ p h. sum_first (p / m.width) (p % m.width) ((div-lt_iff_lt-mul wp).1 h) m.width (omega arith)) 0 (n * m.width) (omega arith)

  -- 2^(n·k) rows suffice, and what a working ends in holds no other nets
  pub enough_bits : (cap rows : ℕ) → 2 ^ (n * m.width) ≤ cap → 2 ^ (n * m.width) ≤ rows → (card : List (Term (List ℕ)))
      → (us : List (Term NetSet)) × (bits_working m n cap rows card ≡ finished us) × Falling net_model us × Monos First us
  enough_bits cap rows h r card =
      converting_ends net_model net_laws First (2 ^ (n * m.width)) (nets_counted (n * m.width)) (product m) cap h rows r (word_factors m n) factors_first card [] tt tt

  pub more_bits : (cap cap' rows rows' : ℕ) → cap ≤ cap' → rows ≤ rows' → (card : List (Term (List ℕ))) (us : List (Term NetSet))
      → bits_working m n cap rows card ≡ finished us → bits_working m n cap' rows' card ≡ finished us
  more_bits cap cap' rows rows' h r card us e = more_rows net_model (List ℕ) (product m) cap cap' rows rows' h r (word_factors m n) card [] us e

  -- what a working ends in falls, and holds bits of the n words alone
  pub kept_bits : (cap rows : ℕ) (card : List (Term (List ℕ))) (us : List (Term NetSet)) → bits_working m n cap rows card ≡ finished us → Falling net_model us × Monos (Within (n * m.width)) us
  kept_bits cap rows card us e =
      let N = 2 ^ (n * m.width) in
      let x = enough_bits (cap + N) (rows + N) (omega arith) (omega arith) card in
      let y = more_bits cap (cap + N) rows (rows + N) (omega arith) (omega arith) card us e in
      let same : x.0 ≡ us = finished_is x.0 us (sym x.1 ∙ y) in
      (subst (Falling net_model) same x.2, monos_all us (subst (Monos First) same x.3))
    where
      finished_is : (a b : List (Term NetSet)) → ◌≡◌ {A = Converted NetSet} (finished a) (finished b) → a ≡ b
      finished_is a b p = cc

      monos_all : (ts : List (Term NetSet)) → Monos First ts → Monos (Within (n * m.width)) ts
      monos_all [] u = tt
      monos_all (t ∷ ts) u = (first_within (n * m.width) t.mono u.0, monos_all ts u.1)
