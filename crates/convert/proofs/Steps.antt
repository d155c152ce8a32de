-- One step of each loop of a conversion. Assumes nothing.
use Rattle.std.proofs.Common.{◌≡◌, ℕ, zero, suc, ◌+◌, ◌-◌, ◌*◌, ◌<◌, Bool, true, false, cond, ltb, List, [], ◌∷◌, ◌++◌, length, get_or, take, drop, sym, ap, ◌∙◌, subst, ⊎_elim, arith}
use Rattle.std.proofs.lemmas.List.{at_drop_more}
use Rattle.std.proofs.lemmas.Bool.{cases_Bool, cond-true, cond-false}
use Rattle.terms.specs.Kind.{KindModel, KindLaws}
use Rattle.terms.specs.Terms.{added, Monos}
use Rattle.terms.specs.declared.Term.{Term}
use Rattle.terms.proofs.Laws.{added_monos}
use Rattle.terms.specs.Additions.{done, full, adding}
use Rattle.convert.specs.Owned.{Owned}
use Rattle.convert.specs.Products.{products, all_products}
use Rattle.convert.specs.declared.places.Factors.{Factors}
use Rattle.convert.proofs.Additions.{done_is, done_full}
use Rattle.convert.specs.declared.FullTable.TheVariants.{Outcome}
use Rattle.convert.specs.Convert.{block, chosen, expanding, Converted, stopped, noted, joined, converting}

-- ---- the places
module _ {M : Type 0} (held : ℕ → Bool) (f : ℕ → List (Term M)) (i n : ℕ) (h : i < n) where
  chosen_next : chosen held f i (n - i) ≡ cond (held i) (f i ∷ chosen held f (i + 1) (n - (i + 1))) (chosen held f (i + 1) (n - (i + 1)))
  chosen_next =
      let e : n - i ≡ suc (n - (i + 1)) = omega arith in
      let s : suc i ≡ i + 1 = omega arith in
      ap (chosen held f i) e ∙ ap (λ j. cond (held i) (f i ∷ chosen held f j (n - (i + 1))) (chosen held f j (n - (i + 1)))) s

  pub chosen_held : held i ≡ true → chosen held f i (n - i) ≡ f i ∷ chosen held f (i + 1) (n - (i + 1))
  chosen_held e = chosen_next ∙ cond-true (held i) (f i ∷ chosen held f (i + 1) (n - (i + 1))) (chosen held f (i + 1) (n - (i + 1))) e

  pub chosen_not : held i ≡ false → chosen held f i (n - i) ≡ chosen held f (i + 1) (n - (i + 1))
  chosen_not e = chosen_next ∙ cond-false (held i) (f i ∷ chosen held f (i + 1) (n - (i + 1))) (chosen held f (i + 1) (n - (i + 1))) e

-- ---- own monomials
pub monos_take : {M : Type 0} (P : M → Type 0) (n : ℕ) (ts : List (Term M)) → Monos P ts → Monos P (take n ts)
monos_take P zero ts u = tt
monos_take P (suc n) [] u = tt
monos_take P (suc n) (t ∷ ts) u = (u.0, monos_take P n ts u.1)

pub monos_drop : {M : Type 0} (P : M → Type 0) (n : ℕ) (ts : List (Term M)) → Monos P ts → Monos P (drop n ts)
monos_drop P zero ts u = u
monos_drop P (suc n) [] u = tt
monos_drop P (suc n) (t ∷ ts) u = monos_drop P n ts u.1

pub monos_append : {M : Type 0} (P : M → Type 0) (ss ts : List (Term M)) → Monos P ss → Monos P ts → Monos P (ss ++ ts)
monos_append P [] ts u v = v
monos_append P (s ∷ ss) ts u v = (u.0, monos_append P ss ts u.1 v)

-- the factor of a place
pub block_owned : {M : Type 0} (k : KindModel M) (f : Factors M) (p : ℕ) → Owned k f.sums.now → Owned k (block f.width f.sums.now p)
block_owned k f p u = monos_take (λ m. k.own m ≡ true) f.width (drop (p * f.width) f.sums.now) (monos_drop (λ m. k.own m ≡ true) (p * f.width) f.sums.now u)

module _ {M : Type 0} (k : KindModel M) (L : KindLaws k) (mul : ℕ → ℕ → ℕ) where
  abbrev Own : M → Type 0
  Own m = k.own m ≡ true

  products_own : (c : ℕ) (m : M) (us : List (Term M)) → k.own m ≡ true → Monos Own us → Monos Own (products k mul c m us)
  products_own c m [] h u = tt
  products_own c m (t ∷ us) h u = (L.times_own m t.mono h u.0, products_own c m us h u.1)

  pub all_own : (ts us : List (Term M)) → Monos Own ts → Monos Own us → Monos Own (all_products k mul ts us)
  all_own [] us h u = tt
  all_own (t ∷ ts) us h u = monos_append Own (products k mul t.code t.mono us) (all_products k mul ts us) (products_own t.code t.mono us h.0 u) (all_own ts us h.1 u)

  pub adding_monos : (P : M → Type 0) (cap : ℕ) (adds ts us : List (Term M)) → Monos P adds → Monos P ts → adding k cap adds ts ≡ done us → Monos P us
  adding_monos P cap [] ts us h u e = subst (Monos P) (done_is ts us e) u
  adding_monos P cap (x ∷ adds) ts us h u e =
      ⊎_elim
      (λ b. done_full us ts (sym e ∙ cond-true (ltb cap (length (added k x.code x.mono ts))) (full ts) (adding k cap adds (added k x.code x.mono ts)) b))
      (λ b. adding_monos P cap adds (added k x.code x.mono ts) us h.1 (added_monos k L P x.code x.mono h.0 ts u)
      (sym (cond-false (ltb cap (length (added k x.code x.mono ts))) (full ts) (adding k cap adds (added k x.code x.mono ts)) b) ∙ e))
      (cases_Bool (ltb cap (length (added k x.code x.mono ts))))

-- ---- one source term
module _ {S M : Type 0} (k : KindModel M) (mul : ℕ → ℕ → ℕ) (cap rcap : ℕ) (factors : S → List (List (Term M))) (ss : List (Term S)) (i : ℕ) (h : i < length ss) (u : Term S) (r : u ≡ get_or ss i u) (rs : List (Term M)) where
  conv_next : converting k mul cap rcap factors (drop i ss) rs ≡ joined k rcap (expanding k mul cap u.code (factors u.mono)) rs (converting k mul cap rcap factors (drop (i + 1) ss))
  conv_next = at_drop_more (λ xs. converting k mul cap rcap factors xs rs) ss i u h ∙ ap (λ x. converting k mul cap rcap factors (x ∷ drop (i + 1) ss) rs) (sym r)

  pub conv_outcome : (us rs' : List (Term M)) → expanding k mul cap u.code (factors u.mono) ≡ done us → adding k rcap us rs ≡ full rs' → converting k mul cap rcap factors (drop i ss) rs ≡ stopped Outcome
  conv_outcome us rs' e d =
      conv_next ∙ ap (λ x. joined k rcap x rs (converting k mul cap rcap factors (drop (i + 1) ss))) e ∙ ap (λ x. noted x (converting k mul cap rcap factors (drop (i + 1) ss))) d

  pub conv_more : (us rs' : List (Term M)) → expanding k mul cap u.code (factors u.mono) ≡ done us → adding k rcap us rs ≡ done rs'
      → converting k mul cap rcap factors (drop (i + 1) ss) rs' ≡ converting k mul cap rcap factors (drop i ss) rs
  conv_more us rs' e d =
      sym (conv_next ∙ ap (λ x. joined k rcap x rs (converting k mul cap rcap factors (drop (i + 1) ss))) e ∙ ap (λ x. noted x (converting k mul cap rcap factors (drop (i + 1) ss))) d)

pub conv_at : {S M : Type 0} (k : KindModel M) (mul : ℕ → ℕ → ℕ) (cap cap' rcap rcap' : ℕ) (factors : S → List (List (Term M))) (ss : List (Term S)) (rs : List (Term M)) (x : Converted M)
    → cap' ≡ cap → rcap' ≡ rcap → rs ≡ [] → converting k mul cap' rcap' factors ss rs ≡ x → converting k mul cap rcap factors ss [] ≡ x
conv_at k mul cap cap' rcap rcap' factors ss rs x a b d h =
    subst (λ n. converting k mul n rcap factors ss [] ≡ x) a (subst (λ n. converting k mul cap' n factors ss [] ≡ x) b (subst (λ z. converting k mul cap' rcap' factors ss z ≡ x) d h))
