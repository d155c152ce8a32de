-- Additions, one after the other. Assumes nothing.
use Rattle.std.proofs.Common.{◌≡◌, ℕ, ◌<◌, ◌≤◌, ltb, List, [], ◌∷◌, length, take, sym, ap, ◌∙◌, subst, ap₂, ⊎_elim, arith}
use Rattle.std.proofs.lemmas.List.{length-take-le}
use Rattle.std.proofs.lemmas.Bool.{cases_Bool, cond-true, cond-false, le-ltb, lt-ltb, ltb-false}
use Rattle.terms.specs.Kind.{KindModel}
use Rattle.terms.specs.Terms.{term, added}
use Rattle.terms.specs.Lent.{live, capacity, Sum, NoRoom}
use Rattle.terms.specs.Additions.{Ended, done, full, adding}
use Rattle.terms.specs.declared.Term.{Term}
use Rattle.terms.specs.declared.table.TermTable.{TermTable}

pub done_same : {M : Type 0} (a b : List (Term M)) → ◌≡◌ {A = Ended M} (done a) (done b) → a ≡ b
done_same a b q = cc

pub full_done : {M A : Type 0} (a b : List (Term M)) → ◌≡◌ {A = Ended M} (full a) (done b) → A
full_done a b q = absurd (let z : ◌≡◌ {A = ℕ} 0 1 = cc in omega arith)

-- Q holds of every term
abbrev pub TermsAll : {M : Type 0} → (Term M → Type 0) → List (Term M) → Type 0
TermsAll Q [] = Unit {0}
TermsAll Q (t ∷ ts) = Q t × TermsAll Q ts

module _ {M : Type 0} (k : KindModel M) (cap : ℕ) (t : Term M) (adds ts : List (Term M)) where
  -- an addition that finds a row
  pub adding_on : length (added k t.code t.mono ts) ≤ cap → adding k cap (t ∷ adds) ts ≡ adding k cap adds (added k t.code t.mono ts)
  adding_on l = let next = added k t.code t.mono ts in cond-false (ltb cap (length next)) (full ts) (adding k cap adds next) (le-ltb cap (length next) l)

  -- one that finds none
  pub adding_full : cap < length (added k t.code t.mono ts) → adding k cap (t ∷ adds) ts ≡ full ts
  adding_full l = let next = added k t.code t.mono ts in cond-true (ltb cap (length next)) (full ts) (adding k cap adds next) (lt-ltb cap (length next) l)

  -- where all of them find a row, so does the first
  pub adding_first : (us : List (Term M)) → adding k cap (t ∷ adds) ts ≡ done us → (length (added k t.code t.mono ts) ≤ cap) × (adding k cap adds (added k t.code t.mono ts) ≡ done us)
  adding_first us e =
      let next = added k t.code t.mono ts in
      ⊎_elim
      (λ b. full_done ts us (sym (cond-true (ltb cap (length next)) (full ts) (adding k cap adds next) b) ∙ e))
      (λ b. (ltb-false cap (length next) b, sym (cond-false (ltb cap (length next)) (full ts) (adding k cap adds next) b) ∙ e))
      (cases_Bool (ltb cap (length next)))

-- what holds of the terms at the start, and is kept by each addition, holds at the end
pub adding_keeps : {M : Type 0} (k : KindModel M) (cap : ℕ) (Q : Term M → Type 0) (P : List (Term M) → Type 0)
    → ((t : Term M) (xs : List (Term M)) → Q t → P xs → P (added k t.code t.mono xs))
    → (adds ts us : List (Term M)) → TermsAll Q adds → P ts → adding k cap adds ts ≡ done us → P us
adding_keeps k cap Q P keep [] ts us q h e = subst P (done_same ts us e) h
adding_keeps k cap Q P keep (t ∷ adds) ts us q h e =
    adding_keeps k cap Q P keep adds (added k t.code t.mono ts) us q.1 (keep t ts q.0 h) (adding_first k cap t adds ts us e).1

-- more rows change nothing
pub adding_more : {M : Type 0} (k : KindModel M) (cap more : ℕ) → cap ≤ more → (adds ts us : List (Term M)) → adding k cap adds ts ≡ done us → adding k more adds ts ≡ done us
adding_more k cap more l [] ts us e = e
adding_more k cap more l (t ∷ adds) ts us e =
    let f = adding_first k cap t adds ts us e in
    let h : length (added k t.code t.mono ts) ≤ more = omega arith in
    adding_on k more t adds ts h ∙ adding_more k cap more l adds (added k t.code t.mono ts) us f.1

-- ---- on a table
pub table_on : {M : Type 0} (k : KindModel M) (cap c : ℕ) (m : M) (adds : List (Term M)) (t t' : TermTable M) → capacity t ≡ cap → Sum k c m t t'
    → adding k cap (term c m ∷ adds) (live t) ≡ adding k cap adds (live t')
table_on k cap c m adds t t' e s =
    let l : length (live t') ≡ t'.len = length-take-le t'.len t'.rows.now s.table.within in
    let f : length (live t') ≡ length (added k c m (live t)) = ap length s.terms in
    let h : length (added k c m (live t)) ≤ cap = omega (arith, s.table.within, s.room) in
    adding_on k cap (term c m) adds (live t) h ∙ ap (adding k cap adds) (sym s.terms)

pub table_full : {M : Type 0} (k : KindModel M) (cap c : ℕ) (m : M) (adds : List (Term M)) (t t' : TermTable M) → capacity t ≡ cap → NoRoom k c m t t'
    → adding k cap (term c m ∷ adds) (live t) ≡ full (live t')
table_full k cap c m adds t t' e s =
    adding_full k cap (term c m) adds (live t) (subst (λ n. n < length (added k c m (live t))) e s.full) ∙ ap full (sym (ap₂ take s.len s.kept))
