-- One addition of several, and additions one after another. Assumes nothing.
use Rattle.std.proofs.Common.{◌≡◌, ℕ, zero, suc, ◌+◌, ◌<◌, ◌≤◌, ltb, List, [], ◌∷◌, ◌++◌, length, get_or, drop, sym, ap, ◌∙◌, subst, ap₂, ⊎_elim, le_of_suc-le-suc, not-suc-le-zero, arith}
use Rattle.std.proofs.lemmas.List.{at_drop_more}
use Rattle.std.proofs.lemmas.Bool.{cases_Bool, cond-true, cond-false, le-ltb}
use Rattle.terms.specs.Kind.{KindModel}
use Rattle.terms.specs.Terms.{added, term, Monos}
use Rattle.terms.specs.declared.Term.{Term}
use Rattle.terms.specs.Additions.{Ended, done, full, adding}
use Rattle.convert.specs.Products.{products, all_products}

pub monos_at : {M : Type 0} (P : M → Type 0) (ts : List (Term M)) (i : ℕ) (d : Term M) → i < length ts → Monos P ts → P (get_or ts i d).mono
monos_at P [] i d h u = absurd (not-suc-le-zero h)
monos_at P (t ∷ ts) zero d h u = u.0
monos_at P (t ∷ ts) (suc i) d h u = monos_at P ts i d (le_of_suc-le-suc h) u.1

pub done_is : {M : Type 0} (a b : List (Term M)) → ◌≡◌ {A = Ended M} (done a) (done b) → a ≡ b
done_is a b q = cc

pub done_full : {M B : Type 0} (a b : List (Term M)) → ◌≡◌ {A = Ended M} (done a) (full b) → B
done_full a b q = absurd (let z : ◌≡◌ {A = ℕ} 0 1 = cc in omega arith)

-- one addition, of the term that stands at i in a list of additions f xs
module _ {M : Type 0} (k : KindModel M) (cap : ℕ) (adds : List (Term M)) (code : ℕ) (mono : M) (ts ts' : List (Term M)) where
  pub one_more : ts' ≡ added k code mono ts → length ts' ≤ cap → adding k cap (term code mono ∷ adds) ts ≡ adding k cap adds ts'
  one_more e l =
      cond-false (ltb cap (length (added k code mono ts))) (full ts) (adding k cap adds (added k code mono ts)) (le-ltb cap (length (added k code mono ts)) (subst (λ xs. length xs ≤ cap) e l))
      ∙ ap (adding k cap adds) (sym e)

-- the first of the terms that are left
pub drop_next : {M : Type 0} (us : List (Term M)) (i : ℕ) → i < length us → (u : Term M) → u ≡ get_or us i u → drop i us ≡ u ∷ drop (i + 1) us
drop_next us i h u r = at_drop_more (λ xs. xs) us i u h ∙ ap (λ x. x ∷ drop (i + 1) us) (sym r)

-- the first of the products that are left
pub products_next : {M : Type 0} (k : KindModel M) (mul : ℕ → ℕ → ℕ) (c : ℕ) (m : M) (us : List (Term M)) (i : ℕ) → i < length us → (u : Term M) → u ≡ get_or us i u → (code : ℕ) (mono : M)
    → code ≡ mul c u.code → mono ≡ k.times m u.mono → products k mul c m (drop i us) ≡ term code mono ∷ products k mul c m (drop (i + 1) us)
products_next k mul c m us i h u r code mono ce me =
    ap (products k mul c m) (drop_next us i h u r)
    ∙ ap₂ (λ a b. term a b ∷ products k mul c m (drop (i + 1) us)) (sym ce) (sym me)

pub all_products_next : {M : Type 0} (k : KindModel M) (mul : ℕ → ℕ → ℕ) (ts us : List (Term M)) (i : ℕ) → i < length ts → (t : Term M) → t ≡ get_or ts i t
    → all_products k mul (drop i ts) us ≡ products k mul t.code t.mono us ++ all_products k mul (drop (i + 1) ts) us
all_products_next k mul ts us i h t r = ap (λ xs. all_products k mul xs us) (drop_next ts i h t r)

-- additions one after another
module _ {M : Type 0} (k : KindModel M) (cap : ℕ) where
  pub run_then : (xs ys ts ts' : List (Term M)) → adding k cap xs ts ≡ done ts' → adding k cap (xs ++ ys) ts ≡ adding k cap ys ts'
  run_then [] ys ts ts' e = ap (adding k cap ys) (done_is ts ts' e)
  run_then (x ∷ xs) ys ts ts' e =
      ⊎_elim
      (λ b. done_full ts' ts (sym e ∙ cond-true (ltb cap (length (added k x.code x.mono ts))) (full ts) (adding k cap xs (added k x.code x.mono ts)) b))
      (λ b. cond-false (ltb cap (length (added k x.code x.mono ts))) (full ts) (adding k cap (xs ++ ys) (added k x.code x.mono ts)) b
      ∙ run_then xs ys (added k x.code x.mono ts) ts' (sym (cond-false (ltb cap (length (added k x.code x.mono ts))) (full ts) (adding k cap xs (added k x.code x.mono ts)) b) ∙ e))
      (cases_Bool (ltb cap (length (added k x.code x.mono ts))))

  pub run_stops : (xs ys ts us : List (Term M)) → adding k cap xs ts ≡ full us → adding k cap (xs ++ ys) ts ≡ full us
  run_stops [] ys ts us e = done_full ts us e
  run_stops (x ∷ xs) ys ts us e =
      ⊎_elim
      (λ b. cond-true (ltb cap (length (added k x.code x.mono ts))) (full ts) (adding k cap (xs ++ ys) (added k x.code x.mono ts)) b
      ∙ sym (cond-true (ltb cap (length (added k x.code x.mono ts))) (full ts) (adding k cap xs (added k x.code x.mono ts)) b) ∙ e)
      (λ b. cond-false (ltb cap (length (added k x.code x.mono ts))) (full ts) (adding k cap (xs ++ ys) (added k x.code x.mono ts)) b
      ∙ run_stops xs ys (added k x.code x.mono ts) us (sym (cond-false (ltb cap (length (added k x.code x.mono ts))) (full ts) (adding k cap xs (added k x.code x.mono ts)) b) ∙ e))
      (cases_Bool (ltb cap (length (added k x.code x.mono ts))))
