-- A table to which some of a list of terms have been added. Assumes nothing.
use Rattle.std.proofs.Common.{◌≡◌, ℕ, ◌≤◌, List, ◌∷◌, ◌++◌, length, Ok, Err, Result, IfOk, sym, ◌∙◌, subst, arith}
use Rattle.std.proofs.lemmas.List.{length-take-le}
use Rattle.terms.specs.Kind.{KindModel}
use Rattle.terms.specs.Terms.{term}
use Rattle.terms.specs.Lent.{live, capacity, Sound, Sum, Kept}
use Rattle.terms.specs.declared.Term.{Term}
use Rattle.terms.specs.declared.table.TermTable.{TermTable}
use Rattle.terms.specs.Additions.{done, full, adding}
use Rattle.convert.proofs.Additions.{one_more, run_then, run_stops}

-- t is what t₀ has become: with those that are left it ends as t₀ does with all
pub record Underway {M : Type 0} (k : KindModel M) (t₀ t : TermTable M) (left all : List (Term M)) : Type 0 where
  pub kept : Kept k t₀ t
  pub ends : adding k (capacity t₀) left (live t) ≡ adding k (capacity t₀) all (live t₀)

pub length-live : {M : Type 0} (k : KindModel M) (t : TermTable M) → Sound k t → length (live t) ≡ t.len
length-live k t s = length-take-le t.len t.rows.now s.within

pub kept_then : {M : Type 0} (k : KindModel M) (t₀ t t' : TermTable M) → Kept k t₀ t → Kept k t t' → Kept k t₀ t'
kept_then k t₀ t t' a b = record { same = b.same ∙ a.same; room = b.room ∙ a.room; table = b.table }

module _ {M : Type 0} (k : KindModel M) (t₀ t t' : TermTable M) (left all : List (Term M)) where
  -- one more term
  module _ (c : ℕ) (m : M) (u : Underway k t₀ t (term c m ∷ left) all) (e : t'.rows.ghost_name ≡ t.rows.ghost_name) where
    pub under_more : Sum k c m t t' → Underway k t₀ t' left all
    under_more s =
        let room : capacity t' ≡ capacity t₀ = s.room ∙ u.kept.room in
        let long : length (live t') ≡ t'.len = length-live k t' s.table in
        let w : length (live t') ≤ capacity t₀ = omega (arith, s.table.within) in
        record { kept = record { same = e ∙ u.kept.same; room = room; table = s.table }; ends = sym (one_more k (capacity t₀) left c m (live t) (live t') s.terms w) ∙ u.ends }

  -- several more
  module _ (more : List (Term M)) (u : Underway k t₀ t (more ++ left) all) where
    pub under_all : Kept k t t' → adding k (capacity t) more (live t) ≡ done (live t') → Underway k t₀ t' left all
    under_all a e =
        let q = subst (λ n. adding k n more (live t) ≡ done (live t')) u.kept.room e in
        record { kept = kept_then k t₀ t t' u.kept a; ends = sym (run_then k (capacity t₀) more left (live t) (live t') q) ∙ u.ends }

    pub under_stop : adding k (capacity t) more (live t) ≡ full (live t') → adding k (capacity t₀) all (live t₀) ≡ full (live t')
    under_stop e =
        let q = subst (λ n. adding k n more (live t) ≡ full (live t')) u.kept.room e in
        sym u.ends ∙ run_stops k (capacity t₀) more left (live t) (live t') q

-- what follows where a call went well
pub if_ok : {T E : Type 0} (A B C : Type 0) (r : Result T E) → (A → C) → elim r as (λ x. Type 0) [ Ok x ↦ A | Err x ↦ B ] → IfOk r (λ x. C)
if_ok A B C (Ok x) f a = f a
if_ok A B C (Err x) f b = tt
