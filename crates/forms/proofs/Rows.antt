-- The rows of terms in falling order. Assumes nothing.
use Rattle.std.proofs.Common.{◌≡◌, ◌-◌, ◌<◌, ◌≤◌, true, false, cond, not, ◌&&◌, List, [], ◌∷◌, length, get_or, drop, take, sym, refl, ap, ◌∙◌, subst, inl, inr, ⊎_elim, arith}
use lib.Bits.{bit_xor, xor_zero_l}
use Rattle.std.proofs.lemmas.List.{take_all}
use Rattle.std.proofs.lemmas.Bool.{cases_Bool, true≢false}
use Rattle.terms.specs.Nets.{net_model}
use Rattle.terms.specs.Terms.{Under, Falling, coeff, same}
use Rattle.terms.specs.declared.Term.{Term}
use Rattle.terms.specs.declared.nets.NetSet.{NetSet}
use Rattle.terms.specs.BothKinds.{net_laws}
use Rattle.terms.proofs.Laws.{lower, higher, level, stands, under_trans, same_higher, coeff_under, coeff_head}
use Rattle.forms.specs.Differences.{Occurs, NoneAbove, Leading, TakenOff, RowOf}

-- ---- the order
pub not_both : (a b : NetSet) → net_model.less a b ≡ true → net_model.less b a ≡ false
not_both a b l = ⊎_elim (λ t. absurd (true≢false (sym (net_laws.less_trans a b a l t) ∙ net_laws.less_irrefl a))) (λ f. f) (cases_Bool (net_model.less b a))

pub same_not : (a b : NetSet) → (a ≡ b → ⊥) → same net_model a b ≡ false
same_not a b d =
    elim (stands net_model net_laws a b) [
      | lower e ↦ ap (λ t. not t && not (net_model.less b a)) e
      | higher e f ↦ same_higher net_model a b f
      | level e f q ↦ absurd (d q)
    ]

-- ---- the sets of terms in falling order
pub under_occurs : (m : NetSet) (ts : List (Term NetSet)) → Under net_model m ts → (x : NetSet) → Occurs x ts → net_model.less x m ≡ true
under_occurs m [] u x o = absurd o
under_occurs m (t ∷ ts) u x (inl e) = ap (λ y. net_model.less y m) e ∙ u.0
under_occurs m (t ∷ ts) u x (inr o) = under_occurs m ts u.1 x o

first_occurs : (d : Term NetSet) (ts : List (Term NetSet)) → 1 ≤ length ts → Occurs (get_or ts 0 d).mono ts
first_occurs d [] l = absurd (omega arith)
first_occurs d (t ∷ ts) l = inl refl

-- no set is above the first
none_above : (d : Term NetSet) (m : NetSet) (ts : List (Term NetSet)) → Falling net_model ts → (1 ≤ length ts → net_model.less m (get_or ts 0 d).mono ≡ false) → NoneAbove m ts
none_above d m [] f l x o = absurd o
none_above d m (t ∷ ts) f l x (inl e) = ap (net_model.less m) e ∙ l (omega arith)
none_above d m (t ∷ ts) f l x (inr o) =
    ⊎_elim (λ y. absurd (true≢false (sym (net_laws.less_trans m x t.mono y (under_occurs t.mono ts f.0 x o)) ∙ l (omega arith)))) (λ n. n) (cases_Bool (net_model.less m x))

-- the row of m comes off
pub taken_head : (t : Term NetSet) (ts : List (Term NetSet)) → Falling net_model (t ∷ ts) → TakenOff t.mono t.code (t ∷ ts) ts
taken_head t ts f = record {
  here = coeff_head net_model net_laws t ts f.0;
  others = λ x d. ap (λ b. bit_xor (cond b t.code 0) (coeff net_model x ts)) (same_not x t.mono d) ∙ xor_zero_l (coeff net_model x ts);
  kept = λ x o. inr o;
  under = under_occurs t.mono ts f.0;
  falling = f.1;
}

-- m does not stand there
taken_none : (m : NetSet) (ts : List (Term NetSet)) → Under net_model m ts → Falling net_model ts → TakenOff m 0 ts ts
taken_none m ts u f = record {
  here = coeff_under net_model m ts u;
  others = λ x d. refl;
  kept = λ x o. o;
  under = under_occurs m ts u;
  falling = f;
}

-- ---- the row of a set above which none stands
absent : (m : NetSet) (ts : List (Term NetSet)) → Under net_model m ts → Falling net_model ts → RowOf m 0 ts ts
absent m ts u f = record {
  taken = taken_none m ts u f;
  within = omega arith;
  onward = λ o. absurd (true≢false (sym (under_occurs m ts u m o) ∙ net_laws.less_irrefl m));
}

pub row_past : (m : NetSet) (ts : List (Term NetSet)) → Falling net_model ts → length ts < 1 → RowOf m 0 ts ts
row_past m [] f l = absent m [] tt f
row_past m (t ∷ ts) f l = absurd (omega arith)

pub row_below : (d : Term NetSet) (m : NetSet) (ts : List (Term NetSet)) → Falling net_model ts → 1 ≤ length ts → true ≡ net_model.less (get_or ts 0 d).mono m → RowOf m 0 ts ts
row_below d m [] f l e = absurd (omega arith)
row_below d m (t ∷ ts) f l e = absent m (t ∷ ts) (sym e, under_trans net_model net_laws t.mono m (sym e) ts f.0) f

pub row_here : (d : Term NetSet) (m : NetSet) (ts : List (Term NetSet)) → Falling net_model ts → NoneAbove m ts → 1 ≤ length ts → false ≡ net_model.less (get_or ts 0 d).mono m → RowOf m (get_or ts 0 d).code ts (take (length ts - 1) (drop 1 ts))
row_here d m [] f n h e = absurd (omega arith)
row_here d m (t ∷ ts) f n h e =
    let q : t.mono ≡ m = net_laws.less_total t.mono m (sym e) (n t.mono (inl refl)) in
    let r : RowOf m t.code (t ∷ ts) ts = record {
      taken = subst (λ x. TakenOff x t.code (t ∷ ts) ts) q (taken_head t ts f);
      within = omega arith;
      onward = λ o. omega arith;
    } in
    subst (λ xs. RowOf m t.code (t ∷ ts) xs) (sym (take_all (length (t ∷ ts) - 1) ts (omega arith))) r

-- ---- the greater of two leading sets
module _ (d : Term NetSet) (us vs : List (Term NetSet)) (f : Falling net_model us) (g : Falling net_model vs) where
  abbrev a : NetSet
  a = (get_or us 0 d).mono

  abbrev b : NetSet
  b = (get_or vs 0 d).mono

  pub lead_left : 1 ≤ length us → 1 ≤ length vs → false ≡ net_model.less a b → Leading us vs a
  lead_left h k e = record { occurs = inl (first_occurs d us h); left = none_above d a us f (λ _. net_laws.less_irrefl a); right = none_above d a vs g (λ _. sym e) }

  pub lead_left_alone : 1 ≤ length us → length vs < 1 → Leading us vs a
  lead_left_alone h k = record { occurs = inl (first_occurs d us h); left = none_above d a us f (λ _. net_laws.less_irrefl a); right = none_above d a vs g (λ l. absurd (omega arith)) }

  pub lead_right : 1 ≤ length us → 1 ≤ length vs → true ≡ net_model.less a b → Leading us vs b
  lead_right h k e = record { occurs = inr (first_occurs d vs k); left = none_above d b us f (λ _. not_both a b (sym e)); right = none_above d b vs g (λ _. net_laws.less_irrefl b) }

  pub lead_right_alone : length us < 1 → 1 ≤ length vs → Leading us vs b
  lead_right_alone h k = record { occurs = inr (first_occurs d vs k); left = none_above d b us f (λ l. absurd (omega arith)); right = none_above d b vs g (λ _. net_laws.less_irrefl b) }
