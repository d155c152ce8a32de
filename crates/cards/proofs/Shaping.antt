-- Counting the bits of a set, net by net. Assumes nothing.
use Rattle.std.proofs.Common.{◌≡◌, ℕ, zero, suc, ◌+◌, ◌-◌, ◌/◌, ◌<◌, ◌≤◌, eqb, Bool, true, false, List, [], ◌∷◌, ◌++◌, length, get_or, set, sym, refl, ap, ◌∙◌, inl, inr, add_assoc, arith}
use lib.Pointwise.{pointwise, bytes_decides}
use Rattle.std.proofs.lemmas.Bool.{cond-true, cond-false}
use Rattle.algebra.specs.Lists.{Mem}
use Rattle.cards.specs.Shapes.{bump, counted, rows, all_rows, EachFits, Shaped}
use Rattle.terms.specs.Sets.{holds}
use Rattle.terms.specs.Terms.{Monos}
use Rattle.terms.specs.declared.Term.{Term}
use Rattle.terms.specs.declared.nets.NetSet.{NetSet}
use Rattle.cards.specs.declared.shapes.Shape.{Shape}

module _ (k : ℕ) (held : ℕ → Bool) (p n : ℕ) (h : p < n) (ss : List ℕ) where
  one_less : n - p ≡ suc (n - (p + 1))
  one_less = omega arith

  next : suc p ≡ p + 1
  next = omega arith

  pub counted_on : held p ≡ true → counted k held p (n - p) ss ≡ counted k held (p + 1) (n - (p + 1)) (bump (p / k) ss)
  counted_on b =
      ap (λ (c : ℕ). counted k held p c ss) one_less
      ∙ cond-true (held p) (counted k held (suc p) (n - (p + 1)) (bump (p / k) ss)) (counted k held (suc p) (n - (p + 1)) ss) b
      ∙ ap (λ (i : ℕ). counted k held i (n - (p + 1)) (bump (p / k) ss)) next

  pub counted_off : held p ≡ false → counted k held p (n - p) ss ≡ counted k held (p + 1) (n - (p + 1)) ss
  counted_off b =
      ap (λ (c : ℕ). counted k held p c ss) one_less
      ∙ cond-false (held p) (counted k held (suc p) (n - (p + 1)) (bump (p / k) ss)) (counted k held (suc p) (n - (p + 1)) ss) b
      ∙ ap (λ (i : ℕ). counted k held i (n - (p + 1)) ss) next

-- one more bit of a word
pub bump_is : (w : ℕ) (ss : List ℕ) → bump w ss ≡ set ss w (get_or ss w 0 + 1)
bump_is w [] = refl
bump_is zero (s ∷ ss) = let e : suc s ≡ s + 1 = omega arith in ap (λ (z : ℕ). z ∷ ss) e
bump_is (suc w) (s ∷ ss) = ap (λ (zs : List ℕ). s ∷ zs) (bump_is w ss)

pub bump_most : (w : ℕ) (ss : List ℕ) (p : ℕ) → ((v : ℕ) → get_or ss v 0 ≤ p) → (v : ℕ) → get_or (bump w ss) v 0 ≤ p + 1
bump_most w [] p h v = omega arith
bump_most zero (s ∷ ss) p h zero = omega (arith, h 0)
bump_most zero (s ∷ ss) p h (suc v) = omega (arith, h (suc v))
bump_most (suc w) (s ∷ ss) p h zero = omega (arith, h 0)
bump_most (suc w) (s ∷ ss) p h (suc v) = bump_most w ss p (λ u. h (suc u)) v

-- a shape with the same numbers as one of a list
pub mem_same : (xs : List Shape) (x : Shape) (i : ℕ) → i < length xs → ((d : Shape) → pointwise eqb (get_or xs i d).counts x.counts ≡ true) → Mem x xs
mem_same [] x i h e = absurd (omega arith)
mem_same (y ∷ xs) x zero h e = inl (sym (ap (λ (cs : List ℕ). record { counts = cs }) ((bytes_decides y.counts x.counts).0 (e x))))
mem_same (y ∷ xs) x (suc i) h e = inr (mem_same xs x i (omega arith) e)

-- ---- one more shape
pub each_push : (k q cap : ℕ) (xs : List Shape) (x : Shape) → EachFits k q cap xs → rows k q x.counts ≤ cap → EachFits k q cap (xs ++ (x ∷ []))
each_push k q cap [] x u h = (h, tt)
each_push k q cap (y ∷ xs) x u h = (u.0, each_push k q cap xs x u.1 h)

pub rows_push : (k q : ℕ) (xs : List Shape) (x : Shape) → all_rows k q (xs ++ (x ∷ [])) ≡ all_rows k q xs + rows k q x.counts
rows_push k q [] x = let a : rows k q x.counts + 0 ≡ 0 + rows k q x.counts = omega arith in a
rows_push k q (y ∷ xs) x = ap (λ (z : ℕ). rows k q y.counts + z) (rows_push k q xs x) ∙ sym (add_assoc (rows k q y.counts) (all_rows k q xs) (rows k q x.counts))

-- sets keep their shapes where more are met
pub shaped_kept : (k places : ℕ) (xs ys : List Shape) → ((x : Shape) → Mem x xs → Mem x ys) → (bits : List (Term NetSet)) → Monos (λ s. Shaped k places xs (holds s)) bits → Monos (λ s. Shaped k places ys (holds s)) bits
shaped_kept k places xs ys f [] u = tt
shaped_kept k places xs ys f (b ∷ bits) u = ((u.0.0, f u.0.0 u.0.1, u.0.2), shaped_kept k places xs ys f bits u.1)
