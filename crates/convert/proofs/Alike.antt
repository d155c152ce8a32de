-- A kind may be worked with by any product that agrees with its own on its monomials: the conversion is the same. Assumes nothing.
use Rattle.std.proofs.Common.{◌≡◌, ℕ, true, cond, eqb, ltb, List, [], ◌∷◌, ◌++◌, length, sym, refl, ap, ◌∙◌, subst, ap₂}
use Rattle.std.proofs.lemmas.Bool.{cond_both}
use Rattle.algebra.specs.Terms as A
use Rattle.terms.specs.Kind.{KindModel, KindLaws}
use Rattle.terms.specs.Terms.{term, summed, placed, added, Monos}
use Rattle.terms.specs.Additions.{Ended, done, full, adding}
use Rattle.terms.specs.declared.Term.{Term}
use Rattle.terms.proofs.Laws.{added_monos}
use Rattle.convert.specs.Products.{products, all_products}
use Rattle.convert.specs.Convert.{then, multiplying, expanding, Converted, noted, joined, converting}
use Rattle.convert.proofs.Kept.{all_p}

module _ {M : Type 0} (k : KindModel M) (L : KindLaws k) (times : M → M → M) (same : (a b : M) → k.own a ≡ true → k.own b ≡ true → k.times a b ≡ times a b) where
  -- the kind with the other product
  abbrev pub other : KindModel M
  other = record { own = k.own; unit = k.unit; times = times; less = k.less }

  pub other_laws : KindLaws other
  other_laws = record {
    unit_own = L.unit_own;
    times_own = λ a b p q. subst (λ m. k.own m ≡ true) (same a b p q) (L.times_own a b p q);
    unit_times = λ a p. sym (same k.unit a L.unit_own p) ∙ L.unit_times a p;
    times_comm = λ a b p q. sym (same a b p q) ∙ L.times_comm a b p q ∙ same b a q p;
    times_assoc = λ a b c p q r.
        ap (λ m. times m c) (sym (same a b p q)) ∙ sym (same (k.times a b) c (L.times_own a b p q) r) ∙ L.times_assoc a b c p q r
        ∙ same a (k.times b c) p (L.times_own b c q r) ∙ ap (times a) (same b c q r);
    less_irrefl = L.less_irrefl;
    less_trans = L.less_trans;
    less_total = L.less_total;
  }

  abbrev Own : M → Type 0
  Own m = k.own m ≡ true

  placed_alike : (c : ℕ) (m : M) (ts : List (Term M)) → placed k c m ts ≡ placed other c m ts
  placed_alike c m [] = refl
  placed_alike c m (t ∷ ts) = ap (λ z. cond (k.less m t.mono) (t ∷ z) (cond (k.less t.mono m) (term c m ∷ (t ∷ ts)) (summed t c ts))) (placed_alike c m ts)

  adding_alike : (cap : ℕ) (adds ts : List (Term M)) → adding k cap adds ts ≡ adding other cap adds ts
  adding_alike cap [] ts = refl
  adding_alike cap (x ∷ adds) ts =
      let us = added other x.code x.mono ts in
      ap (λ z. cond (ltb cap (length z)) (full ts) (adding k cap adds z)) (ap (cond (eqb x.code 0) ts) (placed_alike x.code x.mono ts))
      ∙ ap (cond (ltb cap (length us)) (full ts)) (adding_alike cap adds us)

  -- additions of the kind's monomials end in such
  abbrev Keeps : Ended M → Type 0
  Keeps (done us) = Monos Own us
  Keeps (full us) = Unit {0}

  adding_keeps : (cap : ℕ) (adds ts : List (Term M)) → Monos Own adds → Monos Own ts → Keeps (adding k cap adds ts)
  adding_keeps cap [] ts a u = u
  adding_keeps cap (x ∷ adds) ts a u =
      let us = added k x.code x.mono ts in
      cond_both (ltb cap (length us)) (full ts) (adding k cap adds us) Keeps (λ _. tt) (λ _. adding_keeps cap adds us a.1 (added_monos k L Own x.code x.mono a.0 ts u))

  module _ (mul : ℕ → ℕ → ℕ) (cap : ℕ) where
    products_alike : (c : ℕ) (m : M) (us : List (Term M)) → Own m → Monos Own us → products k mul c m us ≡ products other mul c m us
    products_alike c m [] p u = refl
    products_alike c m (t ∷ us) p u = ap₂ (λ x z. term (mul c t.code) x ∷ z) (same m t.mono p u.0) (products_alike c m us p u.1)

    all_alike : (ts us : List (Term M)) → Monos Own ts → Monos Own us → all_products k mul ts us ≡ all_products other mul ts us
    all_alike [] us a u = refl
    all_alike (t ∷ ts) us a u = ap₂ ◌++◌ (products_alike t.code t.mono us a.0 u) (all_alike ts us a.1 u)

    go : (x : Ended M) → Keeps x → (f g : List (Term M) → Ended M) → ((us : List (Term M)) → Monos Own us → f us ≡ g us) → then x f ≡ then x g
    go (done us) h f g e = e us h
    go (full us) h f g e = refl

    multiplying_alike : (fs : List (List (Term M))) (ts : List (Term M)) → A.All (Monos Own) fs → Monos Own ts → multiplying k mul cap fs ts ≡ multiplying other mul cap fs ts
    multiplying_alike [] ts a u = refl
    multiplying_alike (f ∷ fs) ts a u =
        go (adding k cap (all_products k mul ts f) []) (adding_keeps cap (all_products k mul ts f) [] (all_p k Own L.times_own mul ts f u a.0) tt)
        (multiplying k mul cap fs) (multiplying other mul cap fs) (λ us h. multiplying_alike fs us a.1 h)
        ∙ ap (λ y. then y (multiplying other mul cap fs)) (adding_alike cap (all_products k mul ts f) [] ∙ ap (λ z. adding other cap z []) (all_alike ts f u a.0))

    expanding_alike : (c : ℕ) (fs : List (List (Term M))) → A.All (Monos Own) fs → expanding k mul cap c fs ≡ expanding other mul cap c fs
    expanding_alike c fs a =
        go (adding k cap (term c k.unit ∷ []) []) (adding_keeps cap (term c k.unit ∷ []) [] (L.unit_own, tt) tt) (multiplying k mul cap fs) (multiplying other mul cap fs) (λ us h. multiplying_alike fs us a h)
        ∙ ap (λ y. then y (multiplying other mul cap fs)) (adding_alike cap (term c k.unit ∷ []) [])

    module _ {S : Type 0} (rcap : ℕ) (factors : S → List (List (Term M))) (own : (s : S) → A.All (Monos Own) (factors s)) where
      noted_alike : (x : Ended M) (f g : List (Term M) → Converted M) → ((rs : List (Term M)) → f rs ≡ g rs) → noted x f ≡ noted x g
      noted_alike (done rs) f g e = e rs
      noted_alike (full rs) f g e = refl

      joined_alike : (x : Ended M) (rs : List (Term M)) (f g : List (Term M) → Converted M) → ((rs : List (Term M)) → f rs ≡ g rs) → joined k rcap x rs f ≡ joined other rcap x rs g
      joined_alike (done us) rs f g e = noted_alike (adding k rcap us rs) f g e ∙ ap (λ y. noted y g) (adding_alike rcap us rs)
      joined_alike (full us) rs f g e = refl

      pub converting_alike : (ss : List (Term S)) (rs : List (Term M)) → converting k mul cap rcap factors ss rs ≡ converting other mul cap rcap factors ss rs
      converting_alike [] rs = refl
      converting_alike (s ∷ ss) rs =
          joined_alike (expanding k mul cap s.code (factors s.mono)) rs (converting k mul cap rcap factors ss) (converting other mul cap rcap factors ss) (converting_alike ss)
          ∙ ap (λ x. joined other rcap x rs (converting other mul cap rcap factors ss)) (expanding_alike s.code (factors s.mono) (own s.mono))
