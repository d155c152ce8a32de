-- More rows change nothing. Assumes nothing.
use Rattle.std.proofs.Common.{◌≡◌, ℕ, ◌≤◌, ltb, List, [], ◌∷◌, length, sym, refl, ap, ◌∙◌, ⊎_elim, arith}
use Rattle.std.proofs.lemmas.Bool.{cases_Bool, cond-true, cond-false, ltb-false, le-ltb}
use Rattle.terms.specs.Kind.{KindModel}
use Rattle.terms.specs.Terms.{added, term}
use Rattle.terms.specs.declared.Term.{Term}
use Rattle.terms.specs.Additions.{Ended, done, full, adding}
use Rattle.convert.specs.Products.{all_products}
use Rattle.convert.proofs.Additions.{done_full}
use Rattle.convert.specs.Convert.{then, multiplying, expanding, Converted, finished, stopped, noted, joined, converting}

module _ {M : Type 0} (k : KindModel M) where
  adding_more : (cap cap' : ℕ) → cap ≤ cap' → (adds ts us : List (Term M)) → adding k cap adds ts ≡ done us → adding k cap' adds ts ≡ done us
  adding_more cap cap' h [] ts us e = e
  adding_more cap cap' h (x ∷ adds) ts us e =
      ⊎_elim
      (λ b. done_full us ts (sym e ∙ cond-true (ltb cap (length (added k x.code x.mono ts))) (full ts) (adding k cap adds (added k x.code x.mono ts)) b))
      (λ b.
      let l : length (added k x.code x.mono ts) ≤ cap = ltb-false cap (length (added k x.code x.mono ts)) b in
      cond-false (ltb cap' (length (added k x.code x.mono ts))) (full ts) (adding k cap' adds (added k x.code x.mono ts)) (le-ltb cap' (length (added k x.code x.mono ts)) (omega arith))
      ∙ adding_more cap cap' h adds (added k x.code x.mono ts) us (sym (cond-false (ltb cap (length (added k x.code x.mono ts))) (full ts) (adding k cap adds (added k x.code x.mono ts)) b) ∙ e))
      (cases_Bool (ltb cap (length (added k x.code x.mono ts))))

  module _ (mul : ℕ → ℕ → ℕ) (cap cap' : ℕ) (h : cap ≤ cap') where
    multiplying_more : (fs : List (List (Term M))) (ts us : List (Term M)) → multiplying k mul cap fs ts ≡ done us → multiplying k mul cap' fs ts ≡ done us
    multiplying_more [] ts us e = e
    multiplying_more (f ∷ fs) ts us e = go (adding k cap (all_products k mul ts f) []) refl e (λ vs q. multiplying_more fs vs us q)
      where
        go : (x : Ended M) → adding k cap (all_products k mul ts f) [] ≡ x → then x (multiplying k mul cap fs) ≡ done us
            → ((vs : List (Term M)) → multiplying k mul cap fs vs ≡ done us → multiplying k mul cap' fs vs ≡ done us) → multiplying k mul cap' (f ∷ fs) ts ≡ done us
        go (done vs) a q ih = ap (λ (x : Ended M). then x (multiplying k mul cap' fs)) (adding_more cap cap' h (all_products k mul ts f) [] vs a) ∙ ih vs q
        go (full vs) a q ih = done_full us vs (sym q)

    expanding_more : (c : ℕ) (fs : List (List (Term M))) (us : List (Term M)) → expanding k mul cap c fs ≡ done us → expanding k mul cap' c fs ≡ done us
    expanding_more c fs us e = go (adding k cap (term c k.unit ∷ []) []) refl e
      where
        go : (x : Ended M) → adding k cap (term c k.unit ∷ []) [] ≡ x → then x (multiplying k mul cap fs) ≡ done us → expanding k mul cap' c fs ≡ done us
        go (done vs) a q = ap (λ (x : Ended M). then x (multiplying k mul cap' fs)) (adding_more cap cap' h (term c k.unit ∷ []) [] vs a) ∙ multiplying_more fs vs us q
        go (full vs) a q = done_full us vs (sym q)

pub more_rows : {M : Type 0} (k : KindModel M) (S : Type 0) (mul : ℕ → ℕ → ℕ) (cap cap' rcap rcap' : ℕ) → cap ≤ cap' → rcap ≤ rcap'
    → (factors : S → List (List (Term M))) (ss : List (Term S)) (rs us : List (Term M))
    → converting k mul cap rcap factors ss rs ≡ finished us → converting k mul cap' rcap' factors ss rs ≡ finished us
more_rows {M} k S mul cap cap' rcap rcap' h r factors [] rs us e = finished_again e
  where
    finished_again : ◌≡◌ {A = Converted M} (finished rs) (finished us) → ◌≡◌ {A = Converted M} (finished rs) (finished us)
    finished_again e = e
more_rows {M} k S mul cap cap' rcap rcap' h r factors (s ∷ ss) rs us e =
    go (expanding k mul cap s.code (factors s.mono)) refl e (λ ws q. more_rows k S mul cap cap' rcap rcap' h r factors ss ws us q)
  where
    never : {B : Type 0} (x : Rattle.convert.specs.declared.FullTable.FullTable) → ◌≡◌ {A = Converted M} (stopped x) (finished us) → B
    never x q = absurd (let z : ◌≡◌ {A = ℕ} 0 1 = cc in omega arith)

    add : (vs : List (Term M)) → expanding k mul cap s.code (factors s.mono) ≡ done vs → (y : Ended M) → adding k rcap vs rs ≡ y → noted y (converting k mul cap rcap factors ss) ≡ finished us
        → ((ws : List (Term M)) → converting k mul cap rcap factors ss ws ≡ finished us → converting k mul cap' rcap' factors ss ws ≡ finished us)
        → converting k mul cap' rcap' factors (s ∷ ss) rs ≡ finished us
    add vs a (done ws) b q ih =
        ap (λ (x : Ended M). joined k rcap' x rs (converting k mul cap' rcap' factors ss)) (expanding_more k mul cap cap' h s.code (factors s.mono) vs a)
        ∙ ap (λ (x : Ended M). noted x (converting k mul cap' rcap' factors ss)) (adding_more k rcap rcap' r vs rs ws b) ∙ ih ws q
    add vs a (full ws) b q ih = never Rattle.convert.specs.declared.FullTable.TheVariants.Outcome q

    go : (x : Ended M) → expanding k mul cap s.code (factors s.mono) ≡ x → joined k rcap x rs (converting k mul cap rcap factors ss) ≡ finished us
        → ((ws : List (Term M)) → converting k mul cap rcap factors ss ws ≡ finished us → converting k mul cap' rcap' factors ss ws ≡ finished us)
        → converting k mul cap' rcap' factors (s ∷ ss) rs ≡ finished us
    go (done vs) a q ih = add vs a (adding k rcap vs rs) refl q ih
    go (full vs) a q ih = never Rattle.convert.specs.declared.FullTable.TheVariants.Product q
