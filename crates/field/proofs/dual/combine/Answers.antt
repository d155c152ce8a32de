use Rattle.std.proofs.Common.{◌≡◌, ℕ, suc, ◌+◌, ◌<◌, ◌⊎◌, List, ◌∷◌, cond, eqb, drop, get_or, length, sym, ap, ◌∙◌, subst, refl, inl, inr, add-one, arith, eq-eqb, ne_eqb}
use Rattle.std.specs.Iterator.Adapters.{zip_first}
use lib.Bits.{bit_xor, xor_zero_r}
use Rattle.algebra.specs.Field.{FieldData, FieldLaws}
use Rattle.algebra.specs.Codes.{bit_of, code_sum}
use Rattle.algebra.proofs.Squares.{next_sum}
use Rattle.field.proofs.Lists.{next_of}
use Rattle.field.proofs.dual.combine.Goals as goal

-- one column more: v is the n-th, and s' is s, with v where x has bit n
module _ (m : FieldData) (l : FieldLaws m) (columns : List ℕ) (x n : ℕ) (some : n < length columns) where
  abbrev at : ℕ → ℕ
  at i = cond (eqb (bit_of x i) 1) (get_or columns i 0) 0

  stepped : (v : ℕ) (rest : List ℕ) (i t s s' : ℕ) → drop n columns ≡ v ∷ rest → i ≡ n → t ≡ n + 1 → s ≡ code_sum m n at
      → ((bit_of x i ≡ 1) × (s' ≡ bit_xor s v)) ⊎ ((bit_of x i ≡ 1 → ⊥) × (s' ≡ s)) → (rest ≡ drop t columns) × (s' ≡ code_sum m t at)
  stepped v rest i t s s' left here next so_far both =
      let column = next_of columns n t v rest some left next in
      (column.1, rw (next, add-one) (sum column.0 both))
    where
      sum : v ≡ get_or columns n 0 → ((bit_of x i ≡ 1) × (s' ≡ bit_xor s v)) ⊎ ((bit_of x i ≡ 1 → ⊥) × (s' ≡ s)) → s' ≡ code_sum m (suc n) at
      sum is (inl h) = h.1 ∙ next_sum m l n s v at so_far (is ∙ ap (λ b. cond b (get_or columns n 0) 0) (sym (eq-eqb (bit_of x n) 1 (subst (λ k. bit_of x k ≡ 1) here h.0))))
      sum is (inr h) = h.1 ∙ sym (xor_zero_r s) ∙ next_sum m l n s 0 at so_far (ap (λ b. cond b (get_or columns n 0) 0) (sym (ne_eqb (bit_of x n) 1 (subst (λ k. bit_of x k ≡ 1 → ⊥) here h.0))))

pub loop-i-preserved-then-x-i-eq1 : goal.loop-i-preserved-then-x-i-eq1
loop-i-preserved-then-x-i-eq1 g c =
    let m = g.F.Field.model c.args.f.now in
    let l = g.met.F.Field.holds c.args.f.now in
    let s = c.in-Some.ensures.steps in
    let inv = c.loop-i.invariant in
    let n = (zip_first c.loop-i.i-iterator).start in
    let some : n < length c.args.columns.now = omega (arith, l.wide) in
    let h = stepped m l c.args.columns.now c.args.x n some c.in-Some.column.now _ _ _ _ _ (sym inv.2 ∙ s.1) s.0.1.1 s.0.1.2 inv.3 (inl (c.if-x-i-eq1.true, refl)) in
    (s.0.0 ∙ inv.0, omega (arith, s), h.0, h.1)

pub loop-i-preserved : goal.loop-i-preserved
loop-i-preserved g c =
    let m = g.F.Field.model c.args.f.now in
    let l = g.met.F.Field.holds c.args.f.now in
    let s = c.in-Some.ensures.steps in
    let inv = c.loop-i.invariant in
    let n = (zip_first c.loop-i.i-iterator).start in
    let some : n < length c.args.columns.now = omega (arith, l.wide) in
    let h = stepped m l c.args.columns.now c.args.x n some c.in-Some.column.now _ _ _ _ _ (sym inv.2 ∙ s.1) s.0.1.1 s.0.1.2 inv.3 (inr (c.if-x-i-eq1.false, refl)) in
    (s.0.0 ∙ inv.0, omega (arith, s), h.0, h.1)
