-- The laws of lists of numbers as monomials. Assumes nothing.
use Rattle.std.specs.Prelude.{◌≡◌, ℕ, zero, suc, ◌+◌, ◌-◌, ◌^◌, ◌<◌, ◌≤◌, min, max, true, false, ◌⊎◌, List, [], ◌∷◌, reverse, length, take, ◌≢◌, bit_or, nat_le, nat_lt, slice_index, refl}
use Rattle.std.proofs.Common.{sym, ap, ap₂, ◌∙◌, inl, inr, ⊎_elim, zero-le, le_of_suc-le-suc, not-suc-le-zero, arith}
use Rattle.std.proofs.Math.Nat.{min-eq_left, min-le_right}
use Rattle.std.proofs.lemmas.Nat.{or_comm, or_lt}
use Rattle.std.proofs.lemmas.Nat.Bits.{bit_at_or, same_from_bits}
use Rattle.std.specs.Int.{bit_at}
use Rattle.std.specs.Int.Bits.{or_zero_l}
use Rattle.std.proofs.lemmas.Bool.Decides.{nat_tests}
use Rattle.std.proofs.lemmas.List.{reverse-reverse}
use Rattle.std.proofs.lemmas.Bool.{cases_order, cases_lt, lt-ltb, le-ltb, le-leb, leb-true, and_parts, and_from, cond-true, cond-false, true≢false}
use Rattle.terms.specs.Numbers.{lex, paired, inside}
use Rattle.terms.specs.Exps.{capped, joined}

-- ---- the order
pub lex_lower : (a b : ℕ) (aa bs : List ℕ) → a < b → lex (a ∷ aa) (b ∷ bs) ≡ true
lex_lower a b aa bs h = rw (lt-ltb a b h) refl

pub lex_higher : (a b : ℕ) (aa bs : List ℕ) → b < a → lex (a ∷ aa) (b ∷ bs) ≡ false
lex_higher a b aa bs h = rw (le-ltb a b (let g : b ≤ a = omega arith in g)) (rw (lt-ltb b a h) refl)

pub lex_level : (a b : ℕ) (aa bs : List ℕ) → a ≡ b → lex (a ∷ aa) (b ∷ bs) ≡ lex aa bs
lex_level a b aa bs h = rw (le-ltb a b (let g : b ≤ a = omega arith in g)) (rw (le-ltb b a (let g : a ≤ b = omega arith in g)) refl)

pub lex_irrefl : (aa : List ℕ) → lex aa aa ≡ false
lex_irrefl [] = refl
lex_irrefl (a ∷ aa) = let h = lex_irrefl aa in grind (arith, nat_tests)

never : {A : Type 0} → true ≡ false → A
never e = absurd (true≢false e)

pub lex_total : (aa bs : List ℕ) → lex aa bs ≡ false → lex bs aa ≡ false → aa ≡ bs
lex_total [] [] e f = refl
lex_total [] (b ∷ bs) e f = never e
lex_total (a ∷ aa) [] e f = never f
lex_total (a ∷ aa) (b ∷ bs) e f = let h = lex_total aa bs in grind (arith, nat_tests)

pub lex_trans : (aa bs cs : List ℕ) → lex aa bs ≡ true → lex bs cs ≡ true → lex aa cs ≡ true
lex_trans [] [] cs e f = never (sym e)
lex_trans [] (b ∷ bs) [] e f = never (sym f)
lex_trans [] (b ∷ bs) (c ∷ cs) e f = refl
lex_trans (a ∷ aa) [] cs e f = never (sym e)
lex_trans (a ∷ aa) (b ∷ bs) [] e f = never (sym f)
lex_trans (a ∷ aa) (b ∷ bs) (c ∷ cs) e f = let h = lex_trans aa bs cs in grind (arith, nat_tests)

first : List ℕ → ℕ
first [] = 0
first (x ∷ xs) = x

rest : List ℕ → List ℕ
rest [] = []
rest (x ∷ xs) = xs

-- the place that decides
pub lex_at : (n : ℕ) (aa bs : List ℕ) → n < length aa → n < length bs → take n aa ≡ take n bs → (slice_index aa n ≢ slice_index bs n) → lex aa bs ≡ nat_lt (slice_index aa n) (slice_index bs n)
unfolding first rest
lex_at n [] bs h i e d = absurd (not-suc-le-zero h)
lex_at n (a ∷ aa) [] h i e d = absurd (not-suc-le-zero i)
lex_at zero (a ∷ aa) (b ∷ bs) h i e d =
    ⊎_elim (λ q. absurd (d q)) (⊎_elim (λ l. lex_lower a b aa bs l ∙ sym (lt-ltb a b l)) (λ l. lex_higher a b aa bs l ∙ sym (le-ltb a b (let g : b ≤ a = omega arith in g)))) (cases_order a b)
lex_at (suc n) (a ∷ aa) (b ∷ bs) h i e d = lex_level a b aa bs (ap first e) ∙ lex_at n aa bs (le_of_suc-le-suc h) (le_of_suc-le-suc i) (ap rest e) d

pub reversed_same : (aa bs : List ℕ) → reverse aa ≡ reverse bs → aa ≡ bs
reversed_same aa bs e = sym (reverse-reverse aa) ∙ ap reverse e ∙ reverse-reverse bs

-- ---- the product
-- what f has to do under one limit
pub record Joins (f : ℕ → ℕ → ℕ) (l : ℕ) : Type 0 where
  pub keeps : (a b : ℕ) → a ≤ l → b ≤ l → f a b ≤ l
  pub unit : (a : ℕ) → a ≤ l → f 0 a ≡ a
  pub comm : (a b : ℕ) → f a b ≡ f b a
  pub assoc : (a b c : ℕ) → a ≤ l → b ≤ l → c ≤ l → f (f a b) c ≡ f a (f b c)

abbrev pub AllJoin : (ℕ → ℕ → ℕ → ℕ) → List ℕ → Type 0
AllJoin f [] = Unit {0}
AllJoin f (l ∷ ls) = Joins (f l) l × AllJoin f ls

abbrev pub zeros : List ℕ → List ℕ
zeros [] = []
zeros (l ∷ ls) = 0 ∷ zeros ls

pub zeros_inside : (ls : List ℕ) → inside ls (zeros ls) ≡ true
zeros_inside [] = refl
zeros_inside (l ∷ ls) = and_from (nat_le 0 l) (inside ls (zeros ls)) (le-leb 0 l (omega arith)) (zeros_inside ls)

head_in : (l x : ℕ) (ls xs : List ℕ) → inside (l ∷ ls) (x ∷ xs) ≡ true → x ≤ l
head_in l x ls xs e = leb-true x l (and_parts (nat_le x l) (inside ls xs) e).0

tail_in : (l x : ℕ) (ls xs : List ℕ) → inside (l ∷ ls) (x ∷ xs) ≡ true → inside ls xs ≡ true
tail_in l x ls xs e = (and_parts (nat_le x l) (inside ls xs) e).1

module _ (f : ℕ → ℕ → ℕ → ℕ) where
  pub paired_inside : (ls aa bs : List ℕ) → AllJoin f ls → inside ls aa ≡ true → inside ls bs ≡ true → inside ls (paired f ls aa bs) ≡ true
  paired_inside [] [] [] j u v = refl
  paired_inside [] [] (b ∷ bs) j u v = refl
  paired_inside [] (a ∷ aa) bs j u v = never (sym u)
  paired_inside (l ∷ ls) [] bs j u v = never (sym u)
  paired_inside (l ∷ ls) (a ∷ aa) [] j u v = never (sym v)
  paired_inside (l ∷ ls) (a ∷ aa) (b ∷ bs) j u v =
      and_from (nat_le (f l a b) l) (inside ls (paired f ls aa bs)) (le-leb (f l a b) l (j.0.keeps a b (head_in l a ls aa u) (head_in l b ls bs v)))
      (paired_inside ls aa bs j.1 (tail_in l a ls aa u) (tail_in l b ls bs v))

  pub paired_unit : (ls aa : List ℕ) → AllJoin f ls → inside ls aa ≡ true → paired f ls (zeros ls) aa ≡ aa
  paired_unit [] [] j u = refl
  paired_unit [] (a ∷ aa) j u = never (sym u)
  paired_unit (l ∷ ls) [] j u = never (sym u)
  paired_unit (l ∷ ls) (a ∷ aa) j u = ap₂ (λ x xs. x ∷ xs) (j.0.unit a (head_in l a ls aa u)) (paired_unit ls aa j.1 (tail_in l a ls aa u))

  pub paired_comm : (ls aa bs : List ℕ) → AllJoin f ls → inside ls aa ≡ true → inside ls bs ≡ true → paired f ls aa bs ≡ paired f ls bs aa
  paired_comm [] [] [] j u v = refl
  paired_comm [] [] (b ∷ bs) j u v = refl
  paired_comm [] (a ∷ aa) bs j u v = never (sym u)
  paired_comm (l ∷ ls) [] bs j u v = never (sym u)
  paired_comm (l ∷ ls) (a ∷ aa) [] j u v = never (sym v)
  paired_comm (l ∷ ls) (a ∷ aa) (b ∷ bs) j u v = ap₂ (λ x xs. x ∷ xs) (j.0.comm a b) (paired_comm ls aa bs j.1 (tail_in l a ls aa u) (tail_in l b ls bs v))

  pub paired_assoc : (ls aa bs cs : List ℕ) → AllJoin f ls → inside ls aa ≡ true → inside ls bs ≡ true → inside ls cs ≡ true → paired f ls (paired f ls aa bs) cs ≡ paired f ls aa (paired f ls bs cs)
  paired_assoc [] [] [] [] j u v w = refl
  paired_assoc [] [] [] (c ∷ cs) j u v w = refl
  paired_assoc [] [] (b ∷ bs) cs j u v w = never (sym v)
  paired_assoc [] (a ∷ aa) bs cs j u v w = never (sym u)
  paired_assoc (l ∷ ls) [] bs cs j u v w = never (sym u)
  paired_assoc (l ∷ ls) (a ∷ aa) [] cs j u v w = never (sym v)
  paired_assoc (l ∷ ls) (a ∷ aa) (b ∷ bs) [] j u v w = never (sym w)
  paired_assoc (l ∷ ls) (a ∷ aa) (b ∷ bs) (c ∷ cs) j u v w =
      ap₂ (λ x xs. x ∷ xs) (j.0.assoc a b c (head_in l a ls aa u) (head_in l b ls bs v) (head_in l c ls cs w))
      (paired_assoc ls aa bs cs j.1 (tail_in l a ls aa u) (tail_in l b ls bs v) (tail_in l c ls cs w))

-- ---- unions of words
max_assoc : (x y z : ℕ) → max (max x y) z ≡ max x (max y z)
max_assoc x y z = omega arith

pub or_assoc : (a b c : ℕ) → bit_or (bit_or a b) c ≡ bit_or a (bit_or b c)
or_assoc a b c =
    same_from_bits (bit_or (bit_or a b) c) (bit_or a (bit_or b c))
    (λ i. bit_at_or (bit_or a b) c i ∙ ap (λ x. max x (bit_at c i)) (bit_at_or a b i) ∙ max_assoc (bit_at a i) (bit_at b i) (bit_at c i)
    ∙ sym (bit_at_or a (bit_or b c) i ∙ ap (max (bit_at a i)) (bit_at_or b c i)))

pub or_joins : Joins bit_or (2 ^ 64 - 1)
or_joins = record {
  keeps = λ a b h i. omega (arith, or_lt 64 a b (omega arith) (omega arith));
  unit = λ a h. or_zero_l a;
  comm = or_comm;
  assoc = λ a b c h i j. or_assoc a b c;
}

-- ---- sums of exponents
capped_low : (top a b : ℕ) → a + b ≤ top → capped top a b ≡ a + b
capped_low top a b h = cond-false (nat_lt top (a + b)) (a + b - top) (a + b) (le-ltb top (a + b) h)

capped_high : (top a b : ℕ) → top < a + b → capped top a b ≡ a + b - top
capped_high top a b h = cond-true (nat_lt top (a + b)) (a + b - top) (a + b) (lt-ltb top (a + b) h)

-- the two ways of a sum
pub capped_ways : (top a b : ℕ) → ((a + b ≤ top) × (capped top a b ≡ a + b)) ⊎ ((top < a + b) × (capped top a b ≡ a + b - top))
capped_ways top a b = ⊎_elim (λ h. inr (h, capped_high top a b h)) (λ h. inl (h, capped_low top a b h)) (cases_lt top (a + b))

-- of exponents up to the largest, the product is the capped sum
pub joined_capped : (top a b : ℕ) → a ≤ top → b ≤ top → joined top a b ≡ capped top a b
joined_capped top a b h i = ap₂ (capped top) (min-eq_left h) (min-eq_left i)

pub joined_le : (top a b : ℕ) → joined top a b ≤ top
joined_le top a b =
    let w = capped_ways top (min a top) (min b top) in
    omega (arith, min-le_right a top, min-le_right b top)

pub joined_joins : (top : ℕ) → Joins (joined top) top
joined_joins top = record {
  keeps = λ a b h i. joined_le top a b;
  unit = λ a h. joined_capped top 0 a zero-le h ∙ (let w = capped_ways top 0 a in let e : capped top 0 a ≡ a = omega arith in e);
  comm = λ a b. let w = capped_ways top (min a top) (min b top) in let v = capped_ways top (min b top) (min a top) in omega arith;
  assoc = λ a b c h i j.
      let p = joined_capped top a b h i in
      let q = joined_capped top b c i j in
      let w = capped_ways top a b in
      let v = capped_ways top b c in
      let x = capped_ways top (capped top a b) c in
      let y = capped_ways top a (capped top b c) in
      let e : capped top (capped top a b) c ≡ capped top a (capped top b c) = omega arith in
      joined_capped top (joined top a b) c (joined_le top a b) j ∙ ap (λ n. capped top n c) p ∙ e ∙ ap (capped top a) (sym q) ∙ sym (joined_capped top a (joined top b c) h (joined_le top b c));
}
