-- The first bad row. Assumes nothing.
use Rattle.std.proofs.Common.{◌≡◌, ℕ, suc, ◌+◌, ◌-◌, ◌<◌, true, false, List, length, get_or, take, Some, None, Option, MatchOption, IsTrue, sym, ap, ◌∙◌, subst, subst₂, add-one, arith}
use Rattle.std.proofs.lemmas.List.{get_or_default}
use Rattle.algebra.specs.Field.{FieldData, size}
use Rattle.terms.specs.Exps.{tops_for}
use Rattle.terms.specs.Numbers.{lex}
use Rattle.terms.proofs.Members.{never}
use Rattle.terms.specs.declared.Term.{Term}
use Rattle.cards.specs.Law.{Polynomial}
use Rattle.ledger.specs.Rules.{BadRow}
use Rattle.ledger.proofs.Polynomials.{follows, one_more}
use Rattle.shelf.specs.Rows.{Lawful}

-- what is known of the row before row i, where there is one, by its exponents
abbrev pub Before : List (Term (List ℕ)) → ℕ → Option (List ℕ) → Type 0
Before ts i None = i ≡ 0
Before ts i (Some high) = (e : Term (List ℕ)) × (0 < i) × (high ≡ (get_or ts (i - 1) e).mono)

-- row i is the row before the next
pub row_kept : (ts : List (Term (List ℕ))) (i : ℕ) (d : Term (List ℕ)) → Before ts (i + 1) (Some (get_or ts i d).mono)
row_kept ts i d = let z : i ≡ i + 1 - 1 = omega arith in (d, omega arith, ap (λ (j : ℕ). (get_or ts j d).mono) z)

module _ (m : FieldData) (n q : ℕ) (tops : List ℕ) (is_q : q ≡ size m) (are_tops : tops ≡ tops_for q n) where
  same_tops : tops ≡ tops_for (size m) n
  same_tops = are_tops ∙ ap (λ (p : ℕ). tops_for p n) is_q

  lawful_at : (r : Term (List ℕ)) → Lawful q tops r → Lawful (size m) (tops_for (size m) n) r
  lawful_at r h = subst₂ (λ (p : ℕ) (ts : List ℕ). Lawful p ts r) is_q same_tops h

  lawful_here : (r : Term (List ℕ)) → Lawful (size m) (tops_for (size m) n) r → Lawful q tops r
  lawful_here r h = subst₂ (λ (p : ℕ) (ts : List ℕ). Lawful p ts r) (sym is_q) (sym same_tops) h

  module _ (i : ℕ) (ts : List (Term (List ℕ))) (d : Term (List ℕ)) (there : i < length ts) (before : Polynomial m n (take i ts)) where
    -- a row that is not lawful is the first bad one
    pub bad_row : (Lawful q tops (get_or ts i d) → ⊥) → BadRow m n ts i
    bad_row h = record {
      there = there;
      before = before;
      here = λ p. let f = follows m n ts i d there p in h (lawful_here (get_or ts i d) (record { nonzero = f.nonzero; code = f.code; own = f.own }));
    }

    -- so is one that is not below the row before it
    pub high_row : (o : Option (List ℕ)) → Before ts i o → MatchOption o (IsTrue false) (λ (high : List ℕ). false ≡ lex (get_or ts i d).mono high) → BadRow m n ts i
    high_row None b h = absurd cc
    high_row (Some high) b h = record {
      there = there;
      before = before;
      here = λ p.
          let s : i ≡ suc (i - 1) = omega (arith, b.1) in
          let k : i - 1 < length ts = omega arith in
          let x = (follows m n ts i d there p).below (i - 1) s in
          never (sym (h ∙ ap (lex (get_or ts i d).mono) (b.2 ∙ ap (λ (t : Term (List ℕ)). t.mono) (get_or_default ts (i - 1) b.0 d k)) ∙ x));
    }

    -- the rows up to here are a polynomial
    pub good_row : Lawful q tops (get_or ts i d) → (o : Option (List ℕ)) → Before ts i o → MatchOption o (IsTrue true) (λ (high : List ℕ). true ≡ lex (get_or ts i d).mono high) → Polynomial m n (take (i + 1) ts)
    good_row h o b c =
        let g = lawful_at (get_or ts i d) h in
        let more = one_more m n ts i d there before (record { code = g.code; nonzero = g.nonzero; own = g.own; below = stands o b c }) in
        subst (λ (x : ℕ). Polynomial m n (take x ts)) (sym (add-one i)) more
      where
        stands : (o : Option (List ℕ)) → Before ts i o → MatchOption o (IsTrue true) (λ (high : List ℕ). true ≡ lex (get_or ts i d).mono high) → (j : ℕ) → i ≡ suc j
            → lex (get_or ts i d).mono (get_or ts j d).mono ≡ true
        stands None b c j s = absurd (omega arith)
        stands (Some high) b c j s =
            let z : i - 1 ≡ j = omega arith in
            let k : i - 1 < length ts = omega arith in
            sym (c ∙ ap (lex (get_or ts i d).mono) (b.2 ∙ ap (λ (t : Term (List ℕ)). t.mono) (get_or_default ts (i - 1) b.0 d k) ∙ ap (λ (x : ℕ). (get_or ts x d).mono) z))
