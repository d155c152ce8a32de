-- The rows that products of sums of bits can have. Assumes nothing.
use Rattle.std.proofs.Common.{◌≡◌, ℕ, zero, suc, ◌+◌, ◌-◌, ◌*◌, ◌^◌, ◌<◌, ◌≤◌, true, cond, leb, ◌⊎◌, List, [], ◌∷◌, ◌++◌, map, length, get_or, sym, refl, ap, ◌∙◌, subst, ap₂, inl, inr, ⊎_elim, mul-le-mul_right, suc-mul, mul_comm, mul-le-mul_left, one-mul, zero-mul, arith, length-append}
use native.Mathlib.Nat.{min-eq_left, min-eq_right, min-le_right, le-min}
use Rattle.std.proofs.lemmas.Bool.{cases_Bool, cases_eq, cond-true, cond-false, cond_both, leb-true, leb-false, and_parts, true≢false}
use Rattle.algebra.specs.Lists.{Mem}
use Rattle.algebra.specs.Ops.{unit_row, at_row}
use Rattle.algebra.proofs.Counting.{without, length_without, mem_without, mem_map, length_map}
use Rattle.terms.specs.Additions.{Ended, done, adding}
use Rattle.terms.specs.Exps.{joined}
use Rattle.terms.specs.Kind.{KindModel, KindLaws}
use Rattle.terms.specs.Numbers.{paired, inside}
use Rattle.terms.specs.Terms.{added, Under, Falling, Monos}
use Rattle.terms.specs.declared.Term.{Term}
use Rattle.terms.proofs.Additions.{adding_on}
use Rattle.terms.proofs.Laws.{added_falling, added_monos}
use Rattle.terms.specs.NumbersLemmas.{joined_joins, joined_le}
use Rattle.cards.specs.Shapes.{bump, exponents, rows}

-- ---- lists
pub mem_left : {A : Type 0} (a : A) (xs ys : List A) → Mem a xs → Mem a (xs ++ ys)
mem_left a [] ys h = absurd h
mem_left a (x ∷ xs) ys (inl e) = inl e
mem_left a (x ∷ xs) ys (inr h) = inr (mem_left a xs ys h)

pub mem_right : {A : Type 0} (a : A) (xs ys : List A) → Mem a ys → Mem a (xs ++ ys)
mem_right a [] ys h = h
mem_right a (x ∷ xs) ys h = inr (mem_right a xs ys h)

-- f of each of one list and each of another
all_of : {A B C : Type 0} → (A → B → C) → List A → List B → List C
all_of f [] bs = []
all_of f (a ∷ aa) bs = map (f a) bs ++ all_of f aa bs

all_of_length : {A B C : Type 0} (f : A → B → C) (aa : List A) (bs : List B) → length (all_of f aa bs) ≡ length aa * length bs
unfolding all_of
all_of_length f [] bs = sym (zero-mul (length bs))
all_of_length f (a ∷ aa) bs =
    length-append (map (f a) bs) (all_of f aa bs) ∙ ap₂ ◌+◌ (length_map (f a) bs) (all_of_length f aa bs)
    ∙ (let e : suc (length aa) * length bs ≡ length aa * length bs + length bs = suc-mul (length aa) (length bs) in omega arith)

all_of_mem : {A B C : Type 0} (f : A → B → C) (a : A) (b : B) (aa : List A) (bs : List B) → Mem a aa → Mem b bs → Mem (f a b) (all_of f aa bs)
unfolding all_of
all_of_mem f a b [] bs h i = absurd h
all_of_mem {A} {B} {C} f a b (x ∷ aa) bs (inl e) i = mem_left (f a b) (map (f x) bs) (all_of f aa bs) (subst (λ (z : A). Mem (f a b) (map (f z) bs)) e (mem_map (f a) b bs i))
all_of_mem f a b (x ∷ aa) bs (inr h) i = mem_right (f a b) (map (f x) bs) (all_of f aa bs) (all_of_mem f a b aa bs h i)

-- the numbers below n
below : ℕ → List ℕ
below zero = []
below (suc n) = n ∷ below n

below_length : (n : ℕ) → length (below n) ≡ n
unfolding below
below_length zero = refl
below_length (suc n) = ap suc (below_length n)

below_mem : (a n : ℕ) → a < n → Mem a (below n)
unfolding below
below_mem a zero h = absurd (omega arith)
below_mem a (suc n) h = ⊎_elim (λ (e : a ≡ n). inl e) (λ (l : a < n). inr (below_mem a n l)) (split (cases_eq a n))
  where
    split : (a ≡ n) ⊎ (a ≡ n → ⊥) → (a ≡ n) ⊎ (a < n)
    split (inl e) = inl e
    split (inr d) = inr (omega arith)

-- ---- a falling list of monomials of a list is no longer than that list
module _ {M : Type 0} (k : KindModel M) (L : KindLaws k) where
  others : (R : List M) (m : M) (h : Mem m R) (ts : List (Term M)) → Under k m ts → Monos (λ r. Mem r R) ts → Monos (λ r. Mem r (without m R h)) ts
  others R m h [] u v = tt
  others R m h (t ∷ ts) u v = (at (mem_without m R h t.mono v.0), others R m h ts u.1 v.1)
    where
      at : (t.mono ≡ m) ⊎ Mem t.mono (without m R h) → Mem t.mono (without m R h)
      at (inl e) = absurd (true≢false (sym (subst (λ (z : M). k.less z m ≡ true) e u.0) ∙ L.less_irrefl m))
      at (inr j) = j

  long : (R : List M) (ts : List (Term M)) → Falling k ts → Monos (λ r. Mem r R) ts → length ts ≤ length R
  long R [] f u = omega arith
  long R (t ∷ ts) f u =
      let e = length_without t.mono R u.0 in
      let h : length ts ≤ length (without t.mono R u.0) = long (without t.mono R u.0) ts f.1 (others R t.mono u.0 ts f.0 u.1) in
      omega (arith, e, h)

  pub monos_map : (P Q : M → Type 0) → ((r : M) → P r → Q r) → (ts : List (Term M)) → Monos P ts → Monos Q ts
  monos_map P Q f [] u = tt
  monos_map P Q f (t ∷ ts) u = (f t.mono u.0, monos_map P Q f ts u.1)

  -- additions that go to their end, in a table of monomials that are P
  abbrev pub Ends : (M → Type 0) → Ended M → Type 0
  Ends P x = (us : List (Term M)) × (x ≡ done us) × Falling k us × Monos P us

  pub adding_ends : (P : M → Type 0) (R : List M) → ((r : M) → P r → Mem r R) → (cap : ℕ) → length R ≤ cap → (adds ts : List (Term M)) → Monos P adds → Falling k ts → Monos P ts → Ends P (adding k cap adds ts)
  adding_ends P R into cap h [] ts a f u = (ts, refl, f, u)
  adding_ends P R into cap h (x ∷ adds) ts a f u =
      let next = added k x.code x.mono ts in
      let f' = added_falling k L x.code x.mono ts f in
      let u' = added_monos k L P x.code x.mono a.0 ts u in
      let b : length next ≤ length R = long R next f' (monos_map P (λ r. Mem r R) into next u') in
      let c : length next ≤ cap = omega arith in
      let r = adding_ends P R into cap h adds next a.1 f' u' in
      (r.0, adding_on k cap x adds ts c ∙ r.1, r.2, r.3)

-- ---- exponents of one word, over a field of q elements, for words of k bits
module _ (k q : ℕ) (kp : 0 < k) (qp : 0 < q) where
  -- exponents of the products of s sums
  exps : ℕ → List ℕ
  exps zero = 0 ∷ []
  exps (suc s) = cond (leb (k * exponents k q s) q) (all_of (λ e j. joined (q - 1) e (2 ^ j)) (exps s) (below k)) (below q)

  exps_length : (s : ℕ) → length (exps s) ≡ exponents k q s
  unfolding exps
  exps_length zero = refl
  exps_length (suc s) =
      let more = all_of (λ e j. joined (q - 1) e (2 ^ j)) (exps s) (below k) in
      ⊎_elim
      (λ b.
      let h = leb-true (k * exponents k q s) q b in
      ap length (cond-true (leb (k * exponents k q s) q) more (below q) b) ∙ all_of_length (λ e j. joined (q - 1) e (2 ^ j)) (exps s) (below k)
      ∙ ap₂ ◌*◌ (exps_length s) (below_length k) ∙ mul_comm (exponents k q s) k ∙ sym (min-eq_left h))
      (λ b.
      let h = leb-false (k * exponents k q s) q b in
      let h' : q ≤ k * exponents k q s = omega arith in
      ap length (cond-false (leb (k * exponents k q s) q) more (below q) b) ∙ below_length q ∙ sym (min-eq_right h'))
      (cases_Bool (leb (k * exponents k q s) q))

  exps_step : (s e j : ℕ) → j < k → Mem e (exps s) → Mem (joined (q - 1) e (2 ^ j)) (exps (suc s))
  unfolding exps
  exps_step s e j h u =
      let x = joined (q - 1) e (2 ^ j) in
      let small : x ≤ q - 1 = joined_le (q - 1) e (2 ^ j) in
      cond_both (leb (k * exponents k q s) q) (all_of (λ e j. joined (q - 1) e (2 ^ j)) (exps s) (below k)) (below q) (Mem x)
      (λ _. all_of_mem (λ e j. joined (q - 1) e (2 ^ j)) e j (exps s) (below k) u (below_mem j k h))
      (λ _. below_mem x q (omega arith))

  -- more sums have no fewer exponents
  exponents_most : (s : ℕ) → exponents k q s ≤ q
  exponents_most zero = qp
  exponents_most (suc s) = min-le_right (k * exponents k q s) q

  exponents_rise : (s : ℕ) → exponents k q s ≤ exponents k q (suc s)
  exponents_rise s =
      let a : 1 * exponents k q s ≤ k * exponents k q s = mul-le-mul_right (exponents k q s) kp in
      let b : 1 * exponents k q s ≡ exponents k q s = one-mul (exponents k q s) in
      let c = exponents_most s in
      le-min (omega (arith, a, b)) c

  -- ---- rows: each exponent is one of its word's
  pub Reaches : List ℕ → List ℕ → Type 0
  Reaches [] [] = Unit {0}
  Reaches [] (e ∷ r) = ⊥
  Reaches (s ∷ ss) [] = ⊥
  Reaches (s ∷ ss) (e ∷ r) = Mem e (exps s) × Reaches ss r

  pub all_reached : List ℕ → List (List ℕ)
  all_reached [] = [] ∷ []
  all_reached (s ∷ ss) = all_of ◌∷◌ (exps s) (all_reached ss)

  pub reached_length : (ss : List ℕ) → length (all_reached ss) ≡ rows k q ss
  unfolding all_reached
  reached_length [] = refl
  reached_length (s ∷ ss) = all_of_length ◌∷◌ (exps s) (all_reached ss) ∙ ap₂ ◌*◌ (exps_length s) (reached_length ss)

  pub reached : (ss r : List ℕ) → Reaches ss r → Mem r (all_reached ss)
  unfolding Reaches all_reached
  reached [] [] u = inl refl
  reached [] (e ∷ r) u = absurd u
  reached (s ∷ ss) [] u = absurd u
  reached (s ∷ ss) (e ∷ r) u = all_of_mem ◌∷◌ e r (exps s) (all_reached ss) u.0 (reached ss r u.1)

  pub rows_rise : (w : ℕ) (ss : List ℕ) → rows k q ss ≤ rows k q (bump w ss)
  rows_rise w [] = omega arith
  rows_rise zero (s ∷ ss) = mul-le-mul_right (rows k q ss) (exponents_rise s)
  rows_rise (suc w) (s ∷ ss) = mul-le-mul_left (exponents k q s) (rows_rise w ss)

  pub unit_reached : Reaches (0 ∷ (0 ∷ (0 ∷ []))) (0 ∷ (0 ∷ (0 ∷ [])))
  unfolding Reaches exps
  unit_reached = (inl refl, (inl refl, (inl refl, tt)))

  same_row : (ls r : List ℕ) → inside ls r ≡ true → paired joined ls r (unit_row (length ls)) ≡ r
  same_row [] [] h = refl
  same_row [] (e ∷ r) h = absurd (true≢false (sym h))
  same_row (l ∷ ls) [] h = absurd (true≢false (sym h))
  same_row (l ∷ ls) (e ∷ r) h =
      let p = and_parts (leb e l) (inside ls r) h in
      let J = joined_joins l in
      ap₂ ◌∷◌ (J.comm e 0 ∙ J.unit e (leb-true e l p.0)) (same_row ls r p.1)

  -- a row times a power 2^j of word w
  pub times_reached : (ls ss r : List ℕ) (w j : ℕ) → w < length ls → get_or ls w 0 ≡ q - 1 → j < k → inside ls r ≡ true → Reaches ss r → Reaches (bump w ss) (paired joined ls r (at_row (length ls) w (2 ^ j)))
  unfolding Reaches
  times_reached [] ss r w j a b h i u = absurd (omega arith)
  times_reached (l ∷ ls) ss [] w j a b h i u = absurd (true≢false (sym i))
  times_reached (l ∷ ls) [] (e ∷ r) w j a b h i u = absurd u
  times_reached (l ∷ ls) (s ∷ ss) (e ∷ r) zero j a b h i u =
      let p = and_parts (leb e l) (inside ls r) i in (
        subst (λ (t : ℕ). Mem (joined t e (2 ^ j)) (exps (suc s))) (sym b) (exps_step s e j h u.0),
        subst (Reaches ss) (sym (same_row ls r p.1)) u.1,
      )
  times_reached (l ∷ ls) (s ∷ ss) (e ∷ r) (suc w) j a b h i u =
      let p = and_parts (leb e l) (inside ls r) i in
      let J = joined_joins l in (
        subst (λ (x : ℕ). Mem x (exps s)) (sym (J.comm e 0 ∙ J.unit e (leb-true e l p.0))) u.0,
        times_reached ls ss r w j (omega arith) b h p.1 u.1,
      )
