-- Rows are a polynomial up to the first bad row. Assumes nothing.
use Rattle.std.proofs.Common.{◌≡◌, ℕ, zero, suc, ◌<◌, ◌≤◌, true, ◌⊎◌, List, [], ◌∷◌, length, get_or, take, refl, subst, inl, inr, arith, take-take}
use Rattle.std.proofs.lemmas.Bool.{cases_lt}
use Rattle.algebra.specs.Field.{FieldData, size}
use Rattle.terms.specs.Exps.{tops_for}
use Rattle.terms.specs.Kind.{KindModel, KindLaws}
use Rattle.terms.specs.Terms.{Under, Falling, Nonzero, Codes, Monos}
use Rattle.terms.specs.declared.Term.{Term}
use Rattle.terms.specs.BothKinds.{exp_laws}
use Rattle.convert.proofs.Steps.{monos_take}
use Rattle.cards.specs.Law.{Polynomial}
use Rattle.cards.specs.Sums.{card_kind}
use Rattle.ledger.specs.Rules.{BadRow}

-- ---- the first terms of a list
module _ {M : Type 0} where
  codes_take : (P : ℕ → Type 0) (n : ℕ) (ts : List (Term M)) → Codes P ts → Codes P (take n ts)
  codes_take P zero ts u = tt
  codes_take P (suc n) [] u = tt
  codes_take P (suc n) (t ∷ ts) u = (u.0, codes_take P n ts u.1)

  nonzero_take : (n : ℕ) (ts : List (Term M)) → Nonzero ts → Nonzero (take n ts)
  nonzero_take zero ts u = tt
  nonzero_take (suc n) [] u = tt
  nonzero_take (suc n) (t ∷ ts) u = (u.0, nonzero_take n ts u.1)

  under_take : (k : KindModel M) (b : M) (n : ℕ) (ts : List (Term M)) → Under k b ts → Under k b (take n ts)
  under_take k b zero ts u = tt
  under_take k b (suc n) [] u = tt
  under_take k b (suc n) (t ∷ ts) u = (u.0, under_take k b n ts u.1)

  falling_take : (k : KindModel M) (n : ℕ) (ts : List (Term M)) → Falling k ts → Falling k (take n ts)
  falling_take k zero ts u = tt
  falling_take k (suc n) [] u = tt
  falling_take k (suc n) (t ∷ ts) u = (under_take k t.mono n ts u.0, falling_take k n ts u.1)

  -- one term more
  codes_more : (P : ℕ → Type 0) (i : ℕ) (ts : List (Term M)) (d : Term M) → i < length ts → Codes P (take i ts) → P (get_or ts i d).code → Codes P (take (suc i) ts)
  codes_more P zero [] d h u p = tt
  codes_more P zero (t ∷ ts) d h u p = (p, tt)
  codes_more P (suc i) [] d h u p = tt
  codes_more P (suc i) (t ∷ ts) d h u p = (u.0, codes_more P i ts d (omega arith) u.1 p)

  nonzero_more : (i : ℕ) (ts : List (Term M)) (d : Term M) → i < length ts → Nonzero (take i ts) → 0 < (get_or ts i d).code → Nonzero (take (suc i) ts)
  nonzero_more zero [] d h u p = tt
  nonzero_more zero (t ∷ ts) d h u p = (p, tt)
  nonzero_more (suc i) [] d h u p = tt
  nonzero_more (suc i) (t ∷ ts) d h u p = (u.0, nonzero_more i ts d (omega arith) u.1 p)

  monos_more : (P : M → Type 0) (i : ℕ) (ts : List (Term M)) (d : Term M) → i < length ts → Monos P (take i ts) → P (get_or ts i d).mono → Monos P (take (suc i) ts)
  monos_more P zero [] d h u p = tt
  monos_more P zero (t ∷ ts) d h u p = (p, tt)
  monos_more P (suc i) [] d h u p = tt
  monos_more P (suc i) (t ∷ ts) d h u p = (u.0, monos_more P i ts d (omega arith) u.1 p)

  under_more : (k : KindModel M) (L : KindLaws k) (b : M) (i : ℕ) (ts : List (Term M)) (d e : Term M) → suc i < length ts → Under k b (take (suc i) ts)
      → k.less (get_or ts (suc i) d).mono (get_or ts i e).mono ≡ true → Under k b (take (suc (suc i)) ts)
  under_more k L b i [] d e h u p = tt
  under_more k L b i (t ∷ []) d e h u p = absurd (omega arith)
  under_more k L b zero (t ∷ x ∷ ts) d e h u p = (u.0, (L.less_trans x.mono t.mono b p u.0, tt))
  under_more k L b (suc i) (t ∷ x ∷ ts) d e h u p = (u.0, under_more k L b i (x ∷ ts) d e (omega arith) u.1 p)

  falling_more : (k : KindModel M) (L : KindLaws k) (i : ℕ) (ts : List (Term M)) (d e : Term M) → suc i < length ts → Falling k (take (suc i) ts)
      → k.less (get_or ts (suc i) d).mono (get_or ts i e).mono ≡ true → Falling k (take (suc (suc i)) ts)
  falling_more k L i [] d e h u p = tt
  falling_more k L i (t ∷ []) d e h u p = absurd (omega arith)
  falling_more k L zero (t ∷ x ∷ ts) d e h u p = ((p, tt), (tt, tt))
  falling_more k L (suc i) (t ∷ x ∷ ts) d e h u p = (under_more k L t.mono i (x ∷ ts) d e (omega arith) u.0 p, falling_more k L i (x ∷ ts) d e (omega arith) u.1 p)

  -- what the last term of a list has
  codes_last : (P : ℕ → Type 0) (i : ℕ) (ts : List (Term M)) (d : Term M) → i < length ts → Codes P (take (suc i) ts) → P (get_or ts i d).code
  codes_last P i [] d h u = absurd (omega arith)
  codes_last P zero (t ∷ ts) d h u = u.0
  codes_last P (suc i) (t ∷ ts) d h u = codes_last P i ts d (omega arith) u.1

  nonzero_last : (i : ℕ) (ts : List (Term M)) (d : Term M) → i < length ts → Nonzero (take (suc i) ts) → 0 < (get_or ts i d).code
  nonzero_last i [] d h u = absurd (omega arith)
  nonzero_last zero (t ∷ ts) d h u = u.0
  nonzero_last (suc i) (t ∷ ts) d h u = nonzero_last i ts d (omega arith) u.1

  monos_last : (P : M → Type 0) (i : ℕ) (ts : List (Term M)) (d : Term M) → i < length ts → Monos P (take (suc i) ts) → P (get_or ts i d).mono
  monos_last P i [] d h u = absurd (omega arith)
  monos_last P zero (t ∷ ts) d h u = u.0
  monos_last P (suc i) (t ∷ ts) d h u = monos_last P i ts d (omega arith) u.1

  falling_last : (k : KindModel M) (i : ℕ) (ts : List (Term M)) (d e : Term M) → suc i < length ts → Falling k (take (suc (suc i)) ts) → k.less (get_or ts (suc i) d).mono (get_or ts i e).mono ≡ true
  falling_last k i [] d e h u = absurd (omega arith)
  falling_last k i (t ∷ []) d e h u = absurd (omega arith)
  falling_last k zero (t ∷ x ∷ ts) d e h u = u.0.0
  falling_last k (suc i) (t ∷ x ∷ ts) d e h u = falling_last k i (x ∷ ts) d e (omega arith) u.1

module _ (m : FieldData) (n : ℕ) where
  pub polynomial_take : (i : ℕ) (ts : List (Term (List ℕ))) → Polynomial m n ts → Polynomial m n (take i ts)
  polynomial_take i ts p = record {
    codes = codes_take (λ c. c < size m) i ts p.codes;
    nonzero = nonzero_take i ts p.nonzero;
    rows = monos_take (λ r. (card_kind m n).own r ≡ true) i ts p.rows;
    falling = falling_take (card_kind m n) i ts p.falling;
  }

  polynomial_less : (i j : ℕ) (ts : List (Term (List ℕ))) → i ≤ j → Polynomial m n (take j ts) → Polynomial m n (take i ts)
  polynomial_less i j ts h p = subst (Polynomial m n) (take-take i j ts h) (polynomial_take i (take j ts) p)

  -- a polynomial has no bad row, and any rows have one first bad row
  pub no_bad_row : (ts : List (Term (List ℕ))) (i : ℕ) → Polynomial m n ts → BadRow m n ts i → ⊥
  no_bad_row ts i p b = b.here (polynomial_take (suc i) ts p)

  pub one_bad_row : (ts : List (Term (List ℕ))) (i j : ℕ) → BadRow m n ts i → BadRow m n ts j → i ≡ j
  one_bad_row ts i j a b = by (cases_lt i j) (cases_lt j i)
    where
      by : (i < j) ⊎ (j ≤ i) → (j < i) ⊎ (i ≤ j) → i ≡ j
      by (inl h) k = absurd (a.here (polynomial_less (suc i) j ts h b.before))
      by (inr h) (inl k) = absurd (b.here (polynomial_less (suc j) i ts k a.before))
      by (inr h) (inr k) = omega arith

  -- a row that may follow the rows before it
  pub record Follows (ts : List (Term (List ℕ))) (i : ℕ) (d : Term (List ℕ)) : Type 0 where
    pub code : (get_or ts i d).code < size m
    pub nonzero : 0 < (get_or ts i d).code
    pub own : (card_kind m n).own (get_or ts i d).mono ≡ true
    pub below : (j : ℕ) → i ≡ suc j → (card_kind m n).less (get_or ts i d).mono (get_or ts j d).mono ≡ true

  -- makes them a longer polynomial
  pub one_more : (ts : List (Term (List ℕ))) (i : ℕ) (d : Term (List ℕ)) → i < length ts → Polynomial m n (take i ts) → Follows ts i d → Polynomial m n (take (suc i) ts)
  one_more ts i d h p f = record {
    codes = codes_more (λ c. c < size m) i ts d h p.codes f.code;
    nonzero = nonzero_more i ts d h p.nonzero f.nonzero;
    rows = monos_more (λ r. (card_kind m n).own r ≡ true) i ts d h p.rows f.own;
    falling = falls ts i h p.falling f.below;
  }
    where
      one_row : (ts : List (Term (List ℕ))) → Falling (card_kind m n) (take 1 ts)
      one_row [] = tt
      one_row (t ∷ ts) = (tt, tt)

      falls : (ts : List (Term (List ℕ))) (i : ℕ) → i < length ts → Falling (card_kind m n) (take i ts) → ((j : ℕ) → i ≡ suc j → (card_kind m n).less (get_or ts i d).mono (get_or ts j d).mono ≡ true)
          → Falling (card_kind m n) (take (suc i) ts)
      falls ts zero h u b = one_row ts
      falls ts (suc i) h u b = falling_more (card_kind m n) (exp_laws (tops_for (size m) n) refl) i ts d d h u (b i refl)

  -- and the last row of a polynomial follows those before it
  pub follows : (ts : List (Term (List ℕ))) (i : ℕ) (d : Term (List ℕ)) → i < length ts → Polynomial m n (take (suc i) ts) → Follows ts i d
  follows ts i d h p = record {
    code = codes_last (λ c. c < size m) i ts d h p.codes;
    nonzero = nonzero_last i ts d h p.nonzero;
    own = monos_last (λ r. (card_kind m n).own r ≡ true) i ts d h p.rows;
    below = falls i h p.falling;
  }
    where
      falls : (i : ℕ) → i < length ts → Falling (card_kind m n) (take (suc i) ts) → (j : ℕ) → i ≡ suc j → (card_kind m n).less (get_or ts i d).mono (get_or ts j d).mono ≡ true
      falls zero h u j e = absurd (omega arith)
      falls (suc i) h u j e =
          let q : i ≡ j = omega arith in
          subst (λ (x : ℕ). (card_kind m n).less (get_or ts (suc i) d).mono (get_or ts x d).mono ≡ true) q (falling_last (card_kind m n) i ts d d h u)

  -- no rows are a polynomial
  pub no_rows : Polynomial m n []
  no_rows = record { codes = tt; nonzero = tt; rows = tt; falling = tt }
