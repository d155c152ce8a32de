-- The working, as it is done with tables of a given capacity, is that of the mathematics where it ends. Assumes nothing.
use Rattle.std.proofs.Common.{◌≡◌, ℕ, true, cond, eqb, ltb, ◌⊎◌, List, [], ◌∷◌, ◌++◌, length, sym, refl, ap, ◌∙◌, ap₂, subst₂, inl, inr, ⊎_elim, arith}
use native.Mathlib.Decide.{ℕ_discrete}
use lib.Bits.{bit_xor, xor_comm}
use Rattle.std.proofs.lemmas.Bool.{cases_Bool, cond-true, cond-false, eqb-true, eqb-false}
use Rattle.terms.specs.Kind.{KindModel, KindLaws}
use Rattle.terms.specs.Terms.{added, placed, summed, term}
use Rattle.terms.specs.declared.Term.{Term}
use Rattle.terms.proofs.Laws.{Stands, lower, higher, level, stands}
use Rattle.terms.specs.Additions.{Ended, done, full, adding}
use Rattle.convert.specs.Products.{products, all_products}
use Rattle.convert.proofs.Additions.{done_is, done_full}
use Rattle.convert.specs.Convert.{then, multiplying, expanding, Converted, finished, stopped, noted, joined, converting}
use Rattle.algebra.specs.Terms as A
use Rattle.algebra.specs.Ops.{Ops, scaled_of, multiplied_of}
use Rattle.algebra.specs.Table.{Order, front, insert, put, put_all}
use Rattle.algebra.specs.Working.{table_product, table_converted}
use Rattle.algebra.specs.Theorems.{code_xor}
use Rattle.convert.proofs.Plain.{plain, plains}

abbrev pub Z : (a : ℕ) → Dec (a ≡ 0)
Z a = ℕ_discrete a 0

module _ {M : Type 0} (k : KindModel M) (L : KindLaws k) {less : M → M → Type 0} (O : Order less) (sound : (a b : M) → k.less a b ≡ true → less a b) where
  abbrev tm : ℕ → M → A.Term ℕ M
  tm c m = record { code = c; key = m }

  not_both : (a b : M) → a ≡ b → less a b → ⊥
  not_both a b q l = O.apart a b l (subst₂ less q (sym q) l)

  cond_front : (s : ℕ) (a : M) (ts : List (Term M)) (d : Dec (s ≡ 0)) → plain (cond (eqb s 0) ts (term s a ∷ ts)) ≡ front code_xor Z O s a d (plain ts)
  cond_front s a ts d =
      ⊎_elim
      (λ b. ap plain (cond-true (eqb s 0) ts (term s a ∷ ts) b) ∙ is_zero (eqb-true s 0 b) d)
      (λ b. ap plain (cond-false (eqb s 0) ts (term s a ∷ ts) b) ∙ is_not (eqb-false s 0 b) d)
      (cases_Bool (eqb s 0))
    where
      is_zero : s ≡ 0 → (d : Dec (s ≡ 0)) → plain ts ≡ front code_xor Z O s a d (plain ts)
      is_zero p (yes e) = refl
      is_zero p (no n) = absurd (n p)

      is_not : (s ≡ 0 → ⊥) → (d : Dec (s ≡ 0)) → plain (term s a ∷ ts) ≡ front code_xor Z O s a d (plain ts)
      is_not n (yes e) = absurd (n e)
      is_not n (no _) = refl

  summed_front : (t : Term M) (c : ℕ) (ts : List (Term M)) → plain (summed t c ts) ≡ front code_xor Z O (bit_xor c t.code) t.mono (Z (bit_xor c t.code)) (plain ts)
  summed_front t c ts =
      ap (λ s. plain (cond (eqb s 0) ts (term s t.mono ∷ ts))) (xor_comm t.code c) ∙ cond_front (bit_xor c t.code) t.mono ts (Z (bit_xor c t.code))

  pub placed_insert : (c : ℕ) (m : M) (ts : List (Term M)) → plain (placed k c m ts) ≡ insert code_xor Z O (tm c m) (plain ts)
  placed_insert c m [] = refl
  placed_insert c m (t ∷ ts) = go (placed_insert c m ts) (stands k L m t.mono) (O.choose m t.mono)
    where
      go : plain (placed k c m ts) ≡ insert code_xor Z O (tm c m) (plain ts) → Stands k m t.mono → (x : less m t.mono ⊎ ((m ≡ t.mono) ⊎ less t.mono m))
          → plain (cond (k.less m t.mono) (t ∷ placed k c m ts) (cond (k.less t.mono m) (term c m ∷ (t ∷ ts)) (summed t c ts)))
          ≡ elim x [
            | inl l ↦ tm t.code t.mono ∷ insert code_xor Z O (tm c m) (plain ts)
            | inr (inl e) ↦ front code_xor Z O (bit_xor c t.code) t.mono (Z (bit_xor c t.code)) (plain ts)
            | inr (inr g) ↦ tm c m ∷ tm t.code t.mono ∷ plain ts
          ]
      go ih (lower e) (inl l) = rw e (ap (λ (z : List (A.Term ℕ M)). tm t.code t.mono ∷ z) ih)
      go ih (lower e) (inr (inl q)) = absurd (not_both m t.mono q (sound m t.mono e))
      go ih (lower e) (inr (inr g)) = absurd (O.apart m t.mono (sound m t.mono e) g)
      go ih (higher e f) (inl l) = absurd (O.apart m t.mono l (sound t.mono m f))
      go ih (higher e f) (inr (inl q)) = absurd (not_both t.mono m (sym q) (sound t.mono m f))
      go ih (higher e f) (inr (inr g)) = rw (e, f) refl
      go ih (level e f q) (inl l) = absurd (not_both m t.mono q l)
      go ih (level e f q) (inr (inl r)) = rw (e, f) (summed_front t c ts)
      go ih (level e f q) (inr (inr g)) = absurd (not_both t.mono m (sym q) g)

  -- an addition is one
  pub added_put : (c : ℕ) (m : M) (ts : List (Term M)) → plain (added k c m ts) ≡ put code_xor Z O (tm c m) (plain ts)
  added_put c m ts =
      ⊎_elim
      (λ b. ap plain (cond-true (eqb c 0) ts (placed k c m ts) b) ∙ is_zero (eqb-true c 0 b) (Z c))
      (λ b. ap plain (cond-false (eqb c 0) ts (placed k c m ts) b) ∙ placed_insert c m ts ∙ is_not (eqb-false c 0 b) (Z c))
      (cases_Bool (eqb c 0))
    where
      is_zero : c ≡ 0 → (d : Dec (c ≡ 0)) → plain ts ≡ elim d [ yes e ↦ plain ts | no n ↦ insert code_xor Z O (tm c m) (plain ts) ]
      is_zero p (yes e) = refl
      is_zero p (no n) = absurd (n p)

      is_not : (c ≡ 0 → ⊥) → (d : Dec (c ≡ 0)) → insert code_xor Z O (tm c m) (plain ts) ≡ elim d [ yes e ↦ plain ts | no n ↦ insert code_xor Z O (tm c m) (plain ts) ]
      is_not n (yes e) = absurd (n e)
      is_not n (no _) = refl

  -- additions that end are those of an unbounded table
  pub adding_put_all : (cap : ℕ) (adds ts us : List (Term M)) → adding k cap adds ts ≡ done us → plain us ≡ put_all code_xor Z O (plain adds) (plain ts)
  adding_put_all cap [] ts us e = ap plain (sym (done_is ts us e))
  adding_put_all cap (x ∷ adds) ts us e =
      ⊎_elim
      (λ b. done_full us ts (sym e ∙ cond-true (ltb cap (length (added k x.code x.mono ts))) (full ts) (adding k cap adds (added k x.code x.mono ts)) b))
      (λ b. adding_put_all cap adds (added k x.code x.mono ts) us (sym (cond-false (ltb cap (length (added k x.code x.mono ts))) (full ts) (adding k cap adds (added k x.code x.mono ts)) b) ∙ e)
      ∙ ap (put_all code_xor Z O (plain adds)) (added_put x.code x.mono ts))
      (cases_Bool (ltb cap (length (added k x.code x.mono ts))))

  -- products
  plain_append : (ss ts : List (Term M)) → plain (ss ++ ts) ≡ plain ss ++ plain ts
  plain_append [] ts = refl
  plain_append (s ∷ ss) ts = ap (λ (z : List (A.Term ℕ M)). tm s.code s.mono ∷ z) (plain_append ss ts)

  module _ (P : Ops ℕ) where
    plain_products : (t : Term M) (us : List (Term M)) → plain (products k P.mul t.code t.mono us) ≡ scaled_of P k.times (tm t.code t.mono) (plain us)
    plain_products t [] = refl
    plain_products t (u ∷ us) = ap (λ (z : List (A.Term ℕ M)). tm (P.mul t.code u.code) (k.times t.mono u.mono) ∷ z) (plain_products t us)

    plain_all : (ts us : List (Term M)) → plain (all_products k P.mul ts us) ≡ multiplied_of P k.times (plain ts) (plain us)
    plain_all [] us = refl
    plain_all (t ∷ ts) us = plain_append (products k P.mul t.code t.mono us) (all_products k P.mul ts us) ∙ ap₂ ◌++◌ (plain_products t us) (plain_all ts us)

    pub multiplying_product : (cap : ℕ) (fs : List (List (Term M))) (ts us : List (Term M)) → multiplying k P.mul cap fs ts ≡ done us
        → plain us ≡ table_product P code_xor Z O k.times (plain ts) (plains fs)
    multiplying_product cap [] ts us e = ap plain (sym (done_is ts us e))
    multiplying_product cap (f ∷ fs) ts us e = go (adding k cap (all_products k P.mul ts f) []) refl e (λ vs q. multiplying_product cap fs vs us q)
      where
        go : (x : Ended M) → adding k cap (all_products k P.mul ts f) [] ≡ x → then x (multiplying k P.mul cap fs) ≡ done us
            → ((vs : List (Term M)) → multiplying k P.mul cap fs vs ≡ done us → plain us ≡ table_product P code_xor Z O k.times (plain vs) (plains fs))
            → plain us ≡ table_product P code_xor Z O k.times (plain ts) (plains (f ∷ fs))
        go (done vs) a q ih =
            ih vs q
            ∙ ap (λ (z : List (A.Term ℕ M)). table_product P code_xor Z O k.times z (plains fs))
            (adding_put_all cap (all_products k P.mul ts f) [] vs a ∙ ap (λ (z : List (A.Term ℕ M)). put_all code_xor Z O z []) (plain_all ts f))
        go (full vs) a q ih = done_full us vs (sym q)

    pub expanding_product : (cap c : ℕ) (fs : List (List (Term M))) (us : List (Term M)) → expanding k P.mul cap c fs ≡ done us
        → plain us ≡ table_product P code_xor Z O k.times (put code_xor Z O (tm c k.unit) []) (plains fs)
    expanding_product cap c fs us e = go (adding k cap (term c k.unit ∷ []) []) refl e
      where
        go : (x : Ended M) → adding k cap (term c k.unit ∷ []) [] ≡ x → then x (multiplying k P.mul cap fs) ≡ done us
            → plain us ≡ table_product P code_xor Z O k.times (put code_xor Z O (tm c k.unit) []) (plains fs)
        go (done vs) a q =
            multiplying_product cap fs vs us q
            ∙ ap (λ (z : List (A.Term ℕ M)). table_product P code_xor Z O k.times z (plains fs)) (adding_put_all cap (term c k.unit ∷ []) [] vs a)
        go (full vs) a q = done_full us vs (sym q)

    finished_is : (a b : List (Term M)) → ◌≡◌ {A = Converted M} (finished a) (finished b) → a ≡ b
    finished_is a b q = cc

    -- a conversion that ends is the mathematics' working through tables
    pub converting_table : {S : Type 0} (cap rcap : ℕ) (factors : S → List (List (Term M))) (ss : List (Term S)) (rs us : List (Term M))
        → converting k P.mul cap rcap factors ss rs ≡ finished us
        → plain us ≡ table_converted P code_xor Z O k.times k.unit (λ s. plains (factors s)) (plain ss) (plain rs)
    converting_table cap rcap factors [] rs us e = ap plain (sym (finished_is rs us e))
    converting_table {S} cap rcap factors (s ∷ ss) rs us e =
        go (expanding k P.mul cap s.code (factors s.mono)) refl e (λ ws q. converting_table cap rcap factors ss ws us q)
      where
        never : {B : Type 0} (x : Rattle.convert.specs.declared.FullTable.FullTable) → ◌≡◌ {A = Converted M} (stopped x) (finished us) → B
        never x q = absurd (let z : ◌≡◌ {A = ℕ} 0 1 = cc in omega arith)

        add : (vs : List (Term M)) → expanding k P.mul cap s.code (factors s.mono) ≡ done vs → (y : Ended M) → adding k rcap vs rs ≡ y
            → noted y (converting k P.mul cap rcap factors ss) ≡ finished us
            → ((ws : List (Term M)) → converting k P.mul cap rcap factors ss ws ≡ finished us
            → plain us ≡ table_converted P code_xor Z O k.times k.unit (λ s. plains (factors s)) (plain ss) (plain ws))
            → plain us ≡ table_converted P code_xor Z O k.times k.unit (λ s. plains (factors s)) (plain (s ∷ ss)) (plain rs)
        add vs a (done ws) b q ih =
            ih ws q
            ∙ ap (λ (z : List (A.Term ℕ M)). table_converted P code_xor Z O k.times k.unit (λ s. plains (factors s)) (plain ss) z)
            (adding_put_all rcap vs rs ws b ∙ ap (λ (z : List (A.Term ℕ M)). put_all code_xor Z O z (plain rs)) (expanding_product cap s.code (factors s.mono) vs a))
        add vs a (full ws) b q ih = never Rattle.convert.specs.declared.FullTable.TheVariants.Outcome q

        go : (x : Ended M) → expanding k P.mul cap s.code (factors s.mono) ≡ x → joined k rcap x rs (converting k P.mul cap rcap factors ss) ≡ finished us
            → ((ws : List (Term M)) → converting k P.mul cap rcap factors ss ws ≡ finished us
            → plain us ≡ table_converted P code_xor Z O k.times k.unit (λ s. plains (factors s)) (plain ss) (plain ws))
            → plain us ≡ table_converted P code_xor Z O k.times k.unit (λ s. plains (factors s)) (plain (s ∷ ss)) (plain rs)
        go (done vs) a q ih = add vs a (adding k rcap vs rs) refl q ih
        go (full vs) a q ih = never Rattle.convert.specs.declared.FullTable.TheVariants.Product q
