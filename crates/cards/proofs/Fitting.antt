-- Where the shapes fit, the working goes to its end. Assumes nothing.
use Rattle.std.proofs.Common.{◌≡◌, ℕ, zero, suc, ◌+◌, ◌*◌, ◌/◌, ◌%◌, ◌^◌, ◌<◌, ◌≤◌, Bool, true, false, List, [], ◌∷◌, ◌++◌, length, sym, refl, ap, ◌∙◌, subst, ap₂, subst₂, inl, inr, ⊎_elim, div-lt_iff_lt-mul, arith, length-append, pow_pos}
use Rattle.std.proofs.lemmas.Bool.{cases_Bool, cond-true, cond-false, cond_both}
use Rattle.algebra.specs.Field.{FieldData, FieldLaws, size, product}
use Rattle.algebra.specs.Lists.{Mem}
use Rattle.algebra.specs.Ops.{at_row}
use Rattle.convert.specs.Convert.{chosen, then, multiplying, expanding, finished, noted, joined, converting}
use Rattle.convert.specs.Products.{products, all_products}
use Rattle.convert.proofs.Steps.{monos_append}
use Rattle.terms.specs.Additions.{Ended, adding}
use Rattle.terms.specs.Exps.{tops_for}
use Rattle.terms.specs.Kind.{KindModel, KindLaws}
use Rattle.terms.specs.Sets.{holds}
use Rattle.terms.specs.Terms.{term, Falling, Monos}
use Rattle.terms.specs.declared.Term.{Term}
use Rattle.terms.specs.declared.nets.NetSet.{NetSet}
use Rattle.terms.specs.BothKinds.{exp_laws}
use Rattle.cards.specs.Nested.{Finishes}
use Rattle.cards.specs.Shapes.{bump, counted, rows, all_rows, EachFits, Shaped, ShapesFit}
use Rattle.cards.specs.Sums.{bit_term, bit_sum, card_kind}
use Rattle.cards.specs.Working.{bit_factors}
use Rattle.cards.specs.declared.shapes.Shape.{Shape}
use Rattle.cards.proofs.Blocks.{limit_at, row_own}
use Rattle.cards.proofs.Reach.{mem_left, mem_right, monos_map, Ends, adding_ends, Reaches, all_reached, reached_length, reached, rows_rise, unit_reached, times_reached}

module _ (m : FieldData) (l : FieldLaws m) (n : ℕ) (few : n ≤ 3) (d : ℕ → ℕ) where
  abbrev w : ℕ
  w = m.width

  abbrev q : ℕ
  q = size m

  wp : 0 < w
  wp = let h = l.narrow in omega arith

  qp : 0 < q
  qp = pow_pos w

  abbrev k : KindModel (List ℕ)
  k = card_kind m n

  L : KindLaws k
  L = exp_laws (tops_for q n) refl

  -- rows of n words, whose exponents the products of so many sums can have
  abbrev P : List ℕ → List ℕ → Type 0
  P ss r = (k.own r ≡ true) × Reaches w q wp qp ss r

  -- the rows of the sum for a bit of word v
  abbrev Powers : ℕ → List ℕ → Type 0
  Powers v r = (j : ℕ) × (j < w) × (r ≡ at_row 3 v (2 ^ j))

  sum_powers : (v δ j : ℕ) → j ≤ w → Monos (Powers v) (bit_sum m v δ j)
  sum_powers v δ zero h = tt
  sum_powers v δ (suc j) h = monos_append (Powers v) (bit_sum m v δ j) (bit_term m v δ j ∷ []) (sum_powers v δ j (omega arith)) ((j, omega arith, refl), tt)

  power_times : (ss r s : List ℕ) (v : ℕ) → v < n → P ss r → Powers v s → P (bump v ss) (k.times r s)
  power_times ss r s v h p (j, i, e) =
      let row : k.own (at_row 3 v (2 ^ j)) ≡ true = row_own m n v j h few i in
      subst (λ (z : List ℕ). P (bump v ss) (k.times r z)) (sym e)
      (L.times_own r (at_row 3 v (2 ^ j)) p.0 row, times_reached w q wp qp (tops_for q n) ss r v j (omega arith) (limit_at q n v h few) i p.0 p.1)

  module _ (mul : ℕ → ℕ → ℕ) where
    products_reach : (ss : List ℕ) (v : ℕ) → v < n → (c : ℕ) (r : List ℕ) → P ss r → (us : List (Term (List ℕ))) → Monos (Powers v) us → Monos (P (bump v ss)) (products k mul c r us)
    products_reach ss v h c r p [] o = tt
    products_reach ss v h c r p (u ∷ us) o = (power_times ss r u.mono v h p o.0, products_reach ss v h c r p us o.1)

    all_reach : (ss : List ℕ) (v : ℕ) → v < n → (ts us : List (Term (List ℕ))) → Monos (P ss) ts → Monos (Powers v) us → Monos (P (bump v ss)) (all_products k mul ts us)
    all_reach ss v h [] us p o = tt
    all_reach ss v h (t ∷ ts) us p o =
        monos_append (P (bump v ss)) (products k mul t.code t.mono us) (all_products k mul ts us) (products_reach ss v h t.code t.mono p.0 us o) (all_reach ss v h ts us p.1 o)

    adding_fits : (ss : List ℕ) (cap : ℕ) → rows w q ss ≤ cap → (adds ts : List (Term (List ℕ))) → Monos (P ss) adds → Falling k ts → Monos (P ss) ts → Ends k L (P ss) (adding k cap adds ts)
    adding_fits ss cap h adds ts a f u =
        adding_ends k L (P ss) (all_reached w q wp qp ss) (λ r p. reached w q wp qp ss r p.1) cap (subst (λ z. z ≤ cap) (sym (reached_length w q wp qp ss)) h) adds ts a f u

    module _ (held : ℕ → Bool) where
      abbrev f : ℕ → List (Term (List ℕ))
      f p = bit_sum m (p / w) (d (p % w)) w

      counted_rise : (i c : ℕ) (ss : List ℕ) → rows w q ss ≤ rows w q (counted w held i c ss)
      counted_rise i zero ss = omega arith
      counted_rise i (suc c) ss =
          cond_both (held i) (counted w held (suc i) c (bump (i / w) ss)) (counted w held (suc i) c ss) (λ (z : List ℕ). rows w q ss ≤ rows w q z)
          (λ _. let a = rows_rise w q wp qp (i / w) ss in let b = counted_rise (suc i) c (bump (i / w) ss) in omega (arith, a, b))
          (λ _. counted_rise (suc i) c ss)

      multiplying_fits : (cap i c : ℕ) → i + c ≤ n * w → (ss : List ℕ) (ts : List (Term (List ℕ))) → Falling k ts → Monos (P ss) ts → rows w q (counted w held i c ss) ≤ cap
          → Ends k L (P (counted w held i c ss)) (multiplying k mul cap (chosen held f i c) ts)
      multiplying_fits cap i zero h ss ts g u = λ _. (ts, refl, g, u)
      multiplying_fits cap i (suc c) h ss ts g u =
          ⊎_elim
          (λ (b : held i ≡ true). subst₂ (λ (fs : List (List (Term (List ℕ)))) (τ : List ℕ). rows w q τ ≤ cap → Ends k L (P τ) (multiplying k mul cap fs ts)) (sym (cond-true (held i) (f i ∷ chosen held f (suc i) c) (chosen held f (suc i) c) b)) (sym (cond-true (held i) (counted w held (suc i) c (bump (i / w) ss)) (counted w held (suc i) c ss) b)) (on (λ vs. multiplying_fits cap (suc i) c (omega arith) (bump (i / w) ss) vs)))
          (λ (b : held i ≡ false). subst₂ (λ (fs : List (List (Term (List ℕ)))) (τ : List ℕ). rows w q τ ≤ cap → Ends k L (P τ) (multiplying k mul cap fs ts)) (sym (cond-false (held i) (f i ∷ chosen held f (suc i) c) (chosen held f (suc i) c) b)) (sym (cond-false (held i) (counted w held (suc i) c (bump (i / w) ss)) (counted w held (suc i) c ss) b))
          (multiplying_fits cap (suc i) c (omega arith) ss ts g u))
          (cases_Bool (held i))
        where
          on : ((vs : List (Term (List ℕ))) → Falling k vs → Monos (P (bump (i / w) ss)) vs → rows w q (counted w held (suc i) c (bump (i / w) ss)) ≤ cap
              → Ends k L (P (counted w held (suc i) c (bump (i / w) ss))) (multiplying k mul cap (chosen held f (suc i) c) vs))
              → rows w q (counted w held (suc i) c (bump (i / w) ss)) ≤ cap → Ends k L (P (counted w held (suc i) c (bump (i / w) ss))) (multiplying k mul cap (f i ∷ chosen held f (suc i) c) ts)
          on ih r =
              let ss' = bump (i / w) ss in
              let v : i / w < n = (div-lt_iff_lt-mul wp).1 (omega arith) in
              let a = counted_rise (suc i) c ss' in
              let fits : rows w q ss' ≤ cap = omega (arith, a, r) in
              let x = adding_fits ss' cap fits (all_products k mul ts (f i)) [] (all_reach ss (i / w) v ts (f i) u (sum_powers (i / w) (d (i % w)) w (omega arith))) tt tt in
              let y = ih x.0 x.2 x.3 r in
              (y.0, ap (λ (e : Ended (List ℕ)). then e (multiplying k mul cap (chosen held f (suc i) c))) x.1 ∙ y.1, y.2, y.3)

    -- one source term
    expanding_fits : (held : ℕ → Bool) (cap c : ℕ) → rows w q (counted w held 0 (n * w) (0 ∷ (0 ∷ (0 ∷ [])))) ≤ cap
        → Ends k L (P (counted w held 0 (n * w) (0 ∷ (0 ∷ (0 ∷ []))))) (expanding k mul cap c (chosen held (f held) 0 (n * w)))
    expanding_fits held cap c h =
        let none : List ℕ = 0 ∷ (0 ∷ (0 ∷ [])) in
        let a = counted_rise held 0 (n * w) none in
        let fits : rows w q none ≤ cap = omega (arith, a, h) in
        let x = adding_fits none cap fits (term c k.unit ∷ []) [] ((L.unit_own, unit_reached w q wp qp), tt) tt tt in
        let y = multiplying_fits held cap 0 (n * w) (omega arith) none x.0 x.2 x.3 h in
        (y.0, ap (λ (e : Ended (List ℕ)). then e (multiplying k mul cap (chosen held (f held) 0 (n * w)))) x.1 ∙ y.1, y.2, y.3)

  -- the rows of all shapes
  every_reached : List Shape → List (List ℕ)
  every_reached [] = []
  every_reached (x ∷ xs) = all_reached w q wp qp x.counts ++ every_reached xs

  every_length : (xs : List Shape) → length (every_reached xs) ≡ all_rows w q xs
  unfolding every_reached
  every_length [] = refl
  every_length (x ∷ xs) = length-append (all_reached w q wp qp x.counts) (every_reached xs) ∙ ap₂ ◌+◌ (reached_length w q wp qp x.counts) (every_length xs)

  every_mem : (xs : List Shape) (x : Shape) (r : List ℕ) → Mem x xs → Mem r (all_reached w q wp qp x.counts) → Mem r (every_reached xs)
  unfolding every_reached
  every_mem [] x r h i = absurd h
  every_mem (y ∷ xs) x r (inl e) i = mem_left r (all_reached w q wp qp y.counts) (every_reached xs) (subst (λ (z : Shape). Mem r (all_reached w q wp qp z.counts)) e i)
  every_mem (y ∷ xs) x r (inr h) i = mem_right r (all_reached w q wp qp y.counts) (every_reached xs) (every_mem xs x r h i)

  each_at : (cap : ℕ) (xs : List Shape) (x : Shape) → EachFits w q cap xs → Mem x xs → rows w q x.counts ≤ cap
  each_at cap [] x u h = absurd h
  each_at cap (y ∷ xs) x u (inl e) = subst (λ (z : Shape). rows w q z.counts ≤ cap) (sym e) u.0
  each_at cap (y ∷ xs) x u (inr h) = each_at cap xs x u.1 h

  converting_fits : (cap count : ℕ) (xs : List Shape) → EachFits w q cap xs → all_rows w q xs ≤ count → (bits : List (Term NetSet)) → Monos (λ s. Shaped w (n * w) xs (holds s)) bits
      → (rs : List (Term (List ℕ))) → Falling k rs → Monos (λ r. Mem r (every_reached xs)) rs → (us : List (Term (List ℕ))) × (converting k (product m) cap count (bit_factors m n d) bits rs ≡ finished us)
  converting_fits cap count xs each all [] u rs g v = (rs, refl)
  converting_fits cap count xs each all (b ∷ bits) u rs g v =
      let held = holds b.mono in
      let ss = counted w held 0 (n * w) (0 ∷ (0 ∷ (0 ∷ []))) in
      let x = u.0.0 in
      let is : ss ≡ x.counts = u.0.2 in
      let fits : rows w q ss ≤ cap = subst (λ (z : List ℕ). rows w q z ≤ cap) (sym is) (each_at cap xs x each u.0.1) in
      let e = expanding_fits (product m) held cap b.code fits in
      let R = every_reached xs in
      let into = (λ (r : List ℕ) (p : P ss r). every_mem xs x r u.0.1 (subst (λ (z : List ℕ). Mem r (all_reached w q wp qp z)) is (reached w q wp qp ss r p.1))) in
      let a = adding_ends k L (λ r. Mem r R) R (λ r h. h) count (subst (λ z. z ≤ count) (sym (every_length xs)) all) e.0 rs (monos_map k L (P ss) (λ r. Mem r R) into e.0 e.3) g v in
      let z = converting_fits cap count xs each all bits u.1 a.0 a.2 a.3 in (
        z.0,
        ap (λ (y : Ended (List ℕ)). joined k count y rs (converting k (product m) cap count (bit_factors m n d) bits)) e.1
            ∙ ap (λ (y : Ended (List ℕ)). noted y (converting k (product m) cap count (bit_factors m n d) bits)) a.1 ∙ z.1,
      )

-- the working goes to its end
pub shapes_finish : (m : FieldData) (l : FieldLaws m) (n : ℕ) → n ≤ 3 → (cap count : ℕ) (bits : List (Term NetSet)) → ShapesFit m.width (size m) (n * m.width) cap count bits → Finishes m n cap count bits
shapes_finish m l n few cap count bits s = λ d _. converting_fits m l n few d cap count s.shapes s.each s.all bits s.sets [] tt tt
