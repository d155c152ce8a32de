-- As many rows as there are monomials suffice. Assumes nothing.
use Rattle.std.proofs.Common.{◌≡◌, ℕ, ◌<◌, ◌≤◌, true, ltb, List, [], ◌∷◌, length, refl, ap, ◌∙◌, arith}
use Rattle.std.proofs.lemmas.Bool.{cond-false, le-ltb}
use Rattle.terms.specs.Kind.{KindModel, KindLaws}
use Rattle.terms.specs.Terms.{added, term, Under, Falling, Monos}
use Rattle.terms.specs.declared.Term.{Term}
use Rattle.terms.proofs.Laws.{added_falling, added_monos}
use Rattle.terms.specs.Additions.{Ended, done, full, adding}
use Rattle.convert.specs.Products.{all_products}
use Rattle.convert.proofs.Kept.{all_p}
use Rattle.convert.specs.Convert.{then, multiplying, expanding, finished, noted, joined, converting}
use Rattle.algebra.specs.Terms as A

-- the monomials that are P are numbered below N, in their order, and closed under products
pub record Counted {M : Type 0} (k : KindModel M) (P : M → Type 0) (N : ℕ) : Type 0 where
  pub number : M → ℕ
  pub below : (a : M) → P a → number a < N
  pub rising : (a b : M) → P a → P b → k.less a b ≡ true → number a < number b
  pub unit : P k.unit
  pub times : (a b : M) → P a → P b → P (k.times a b)

module _ {M : Type 0} (k : KindModel M) (L : KindLaws k) (P : M → Type 0) (N : ℕ) (K : Counted k P N) where
  -- every number below b
  abbrev Low : ℕ → List (Term M) → Type 0
  Low b ts = Monos (λ m. K.number m < b) ts

  under_low : (a : M) → P a → (ts : List (Term M)) → Monos P ts → Under k a ts → Low (K.number a) ts
  under_low a p [] u v = tt
  under_low a p (t ∷ ts) u v = (K.rising t.mono a u.0 p v.0, under_low a p ts u.1 v.1)

  long : (b : ℕ) (ts : List (Term M)) → Falling k ts → Monos P ts → Low b ts → length ts ≤ b
  long b [] f u l = omega arith
  long b (t ∷ ts) f u l =
      let h : length ts ≤ K.number t.mono = long (K.number t.mono) ts f.1 u.1 (under_low t.mono u.0 ts u.1 f.0) in
      let g : K.number t.mono < b = l.0 in
      omega arith

  all_low : (ts : List (Term M)) → Monos P ts → Low N ts
  all_low [] u = tt
  all_low (t ∷ ts) u = (K.below t.mono u.0, all_low ts u.1)

  -- additions that end in a table of such monomials
  pub record Ends (x : Ended M) : Type 0 where
    terms : List (Term M)
    is : x ≡ done terms
    falling : Falling k terms
    monos : Monos P terms

  adding_ends : (cap : ℕ) → N ≤ cap → (adds ts : List (Term M)) → Monos P adds → Falling k ts → Monos P ts → Ends (adding k cap adds ts)
  adding_ends cap h [] ts a f u = record { terms = ts; is = refl; falling = f; monos = u }
  adding_ends cap h (x ∷ adds) ts a f u =
      let f' = added_falling k L x.code x.mono ts f in
      let u' = added_monos k L P x.code x.mono a.0 ts u in
      let l : length (added k x.code x.mono ts) ≤ N = long N (added k x.code x.mono ts) f' u' (all_low (added k x.code x.mono ts) u') in
      let r = adding_ends cap h adds (added k x.code x.mono ts) a.1 f' u' in
      record {
        terms = r.terms;
        is = cond-false (ltb cap (length (added k x.code x.mono ts))) (full ts) (adding k cap adds (added k x.code x.mono ts)) (le-ltb cap (length (added k x.code x.mono ts)) (omega arith)) ∙ r.is;
        falling = r.falling;
        monos = r.monos;
      }

  module _ (mul : ℕ → ℕ → ℕ) (cap : ℕ) (h : N ≤ cap) where
    multiplying_ends : (fs : List (List (Term M))) (ts : List (Term M)) → A.All (Monos P) fs → Falling k ts → Monos P ts → Ends (multiplying k mul cap fs ts)
    multiplying_ends [] ts a f u = record { terms = ts; is = refl; falling = f; monos = u }
    multiplying_ends (g ∷ fs) ts a f u =
        let x = adding_ends cap h (all_products k mul ts g) [] (all_p k P K.times mul ts g u a.0) tt tt in
        let r = multiplying_ends fs x.terms a.1 x.falling x.monos in
        record { terms = r.terms; is = ap (λ (y : Ended M). then y (multiplying k mul cap fs)) x.is ∙ r.is; falling = r.falling; monos = r.monos }

    expanding_ends : (c : ℕ) (fs : List (List (Term M))) → A.All (Monos P) fs → Ends (expanding k mul cap c fs)
    expanding_ends c fs a =
        let x = adding_ends cap h (term c k.unit ∷ []) [] (K.unit, tt) tt tt in
        let r = multiplying_ends fs x.terms a x.falling x.monos in
        record { terms = r.terms; is = ap (λ (y : Ended M). then y (multiplying k mul cap fs)) x.is ∙ r.is; falling = r.falling; monos = r.monos }

    pub converting_ends : {S : Type 0} (rcap : ℕ) → N ≤ rcap → (factors : S → List (List (Term M))) → ((s : S) → A.All (Monos P) (factors s))
        → (ss : List (Term S)) (rs : List (Term M)) → Falling k rs → Monos P rs → (us : List (Term M)) × (converting k mul cap rcap factors ss rs ≡ finished us) × Falling k us × Monos P us
    converting_ends rcap r factors own [] rs f u = (rs, refl, f, u)
    converting_ends rcap r factors own (s ∷ ss) rs f u =
        let x = expanding_ends s.code (factors s.mono) (own s.mono) in
        let y = adding_ends rcap r x.terms rs x.monos f u in
        let z = converting_ends rcap r factors own ss y.terms y.falling y.monos in
        (z.0, ap (λ (e : Ended M). joined k rcap e rs (converting k mul cap rcap factors ss)) x.is ∙ ap (λ (e : Ended M). noted e (converting k mul cap rcap factors ss)) y.is ∙ z.1, z.2, z.3)
