-- The walk down two forms, which keeps the least set at which they differ. Assumes nothing.
use Rattle.std.proofs.Common.{◌≡◌, ℕ, ◌<◌, ◌≤◌, true, leb, ◌⊎◌, List, [], ◌∷◌, Some, None, Option, sym, ap, ◌∙◌, subst, inl, inr, ⊎_elim, arith}
use Rattle.std.proofs.lemmas.Bool.{cases_Bool, cases_eq, leb-true, leb-false, true≢false, cond-true, cond-false}
use Rattle.terms.specs.Counts.{nets_in}
use Rattle.terms.specs.Forms.{Form}
use Rattle.terms.specs.Nets.{net_model}
use Rattle.terms.specs.Sets.{Own}
use Rattle.terms.specs.Terms.{Falling, Monos, coeff}
use Rattle.terms.specs.declared.Term.{Term}
use Rattle.terms.specs.declared.nets.NetSet.{NetSet}
use Rattle.terms.specs.BothKinds.{net_laws}
use Rattle.terms.proofs.Laws.{lower, higher, level, stands, unique}
use Rattle.forms.specs.Differences.{Occurs, Before, DifferenceIs, TakenOff, better}

pub occurs_has : (P : NetSet → Type 0) (ts : List (Term NetSet)) → Monos P ts → (s : NetSet) → Occurs s ts → P s
occurs_has P [] m s o = absurd o
occurs_has P (t ∷ ts) m s (inl e) = subst P (sym e) m.0
occurs_has P (t ∷ ts) m s (inr o) = occurs_has P ts m.1 s o

-- whether two sets are one
one_set : (s t : NetSet) → (s ≡ t) ⊎ (s ≡ t → ⊥)
one_set s t =
    elim (stands net_model net_laws s t) [
      | lower e ↦ inr (λ q. true≢false (sym e ∙ ap (λ x. net_model.less x t) q ∙ net_laws.less_irrefl t))
      | higher e f ↦ inr (λ q. true≢false (sym f ∙ ap (net_model.less t) q ∙ net_laws.less_irrefl t))
      | level e f q ↦ inl q
    ]

abbrev Best : Option NetSet → NetSet → Type 0
Best None t = ⊥
Best (Some s) t = Before s t

-- the walk down us and vs is at the rows ls and rs
module _ (us vs : List (Term NetSet)) where
  -- the codes of t are as in what is left
  abbrev Ahead : List (Term NetSet) → List (Term NetSet) → NetSet → Type 0
  Ahead ls rs t = (coeff net_model t us ≡ coeff net_model t ls) × (coeff net_model t vs ≡ coeff net_model t rs)

  -- the set found stands above all that is left
  abbrev Found : List (Term NetSet) → List (Term NetSet) → Option NetSet → Type 0
  Found ls rs None = Unit {0}
  Found ls rs (Some s) = (Occurs s us ⊎ Occurs s vs) × (coeff net_model s us ≡ coeff net_model s vs → ⊥) × ((t : NetSet) → Occurs t ls ⊎ Occurs t rs → net_model.less t s ≡ true)

  pub record Walked (ls rs : List (Term NetSet)) (best : Option NetSet) : Type 0 where
    pub falling_left : Falling net_model ls
    pub falling_right : Falling net_model rs
    pub of_left : (t : NetSet) → Occurs t ls → Occurs t us
    pub of_right : (t : NetSet) → Occurs t rs → Occurs t vs
    pub front : (t : NetSet) → Occurs t ls ⊎ Occurs t rs → Ahead ls rs t
    pub each : (t : NetSet) → Ahead ls rs t ⊎ ((coeff net_model t us ≡ coeff net_model t vs) ⊎ Best best t)
    pub found : Found ls rs best

  pub walk_ends : Form us → Form vs → (best : Option NetSet) → Walked [] [] best → DifferenceIs us vs best
  walk_ends f g None w =
      unique net_model net_laws us vs f.falling g.falling f.nonzero g.nonzero
      (λ t. ⊎_elim (λ a. a.0 ∙ sym a.1) (⊎_elim (λ e. e) (λ b. absurd b)) (w.each t))
  walk_ends f g (Some s) w = record {
    own = ⊎_elim (occurs_has Own us f.own s) (occurs_has Own vs g.own s) w.found.0;
    occurs = w.found.0;
    apart = w.found.1;
    least = λ t d. ⊎_elim (λ a. absurd (d (a.0 ∙ sym a.1))) (⊎_elim (λ e. absurd (d e)) (λ b. b)) (w.each t);
  }

  module _ (ls rs : List (Term NetSet)) (best : Option NetSet) (w : Walked ls rs best) (m : NetSet) (o : Occurs m ls ⊎ Occurs m rs)
      (a b : ℕ) (ls' rs' : List (Term NetSet)) (l : TakenOff m a ls ls') (r : TakenOff m b rs rs') where
    back : (t : NetSet) → Occurs t ls' ⊎ Occurs t rs' → Occurs t ls ⊎ Occurs t rs
    back t = ⊎_elim (λ x. inl (l.kept t x)) (λ x. inr (r.kept t x))

    below : (t : NetSet) → Occurs t ls' ⊎ Occurs t rs' → net_model.less t m ≡ true
    below t = ⊎_elim (l.under t) (r.under t)

    further : (t : NetSet) → (t ≡ m → ⊥) → Ahead ls rs t → Ahead ls' rs' t
    further t d h = (h.0 ∙ l.others t d, h.1 ∙ r.others t d)

    not_m : (t : NetSet) → net_model.less t m ≡ true → t ≡ m → ⊥
    not_m t h e = true≢false (sym h ∙ ap (λ x. net_model.less x m) e ∙ net_laws.less_irrefl m)

    front : (t : NetSet) → Occurs t ls' ⊎ Occurs t rs' → Ahead ls' rs' t
    front t x = further t (not_m t (below t x)) (w.front t (back t x))

    -- what holds after the step, with the set found then
    walked : (best' : Option NetSet) → ((t : NetSet) → t ≡ m → Ahead ls rs t → (coeff net_model t us ≡ coeff net_model t vs) ⊎ Best best' t) → ((t : NetSet) → Best best t → Best best' t) → Found ls' rs' best' → Walked ls' rs' best'
    walked best' here old found = record {
      falling_left = l.falling;
      falling_right = r.falling;
      of_left = λ t x. w.of_left t (l.kept t x);
      of_right = λ t x. w.of_right t (r.kept t x);
      front = front;
      each = λ t.
          ⊎_elim
          (λ h. ⊎_elim (λ e. inr (here t e h)) (λ d. inl (further t d h)) (one_set t m))
          (⊎_elim (λ e. inr (inl e)) (λ x. inr (inr (old t x))))
          (w.each t);
      found = found;
    }

    found_on : (best : Option NetSet) → Found ls rs best → Found ls' rs' best
    found_on None f = tt
    found_on (Some s) f = (f.0, f.1, λ t x. f.2 t (back t x))

    -- m does not tell them apart
    pub walk_same : a ≡ b → Walked ls' rs' best
    walk_same e =
        walked best (λ t q h. inl (h.0 ∙ ap (λ x. coeff net_model x ls) q ∙ l.here ∙ e ∙ sym r.here ∙ ap (λ x. coeff net_model x rs) (sym q) ∙ sym h.1))
        (λ t x. x) (found_on best w.found)

    -- m does
    module _ (d : a ≡ b → ⊥) where
      new : Found ls' rs' (Some m)
      new =
          let h = w.front m o in
          (⊎_elim (λ x. inl (w.of_left m x)) (λ x. inr (w.of_right m x)) o, λ e. d (sym l.here ∙ sym h.0 ∙ e ∙ h.1 ∙ r.here), below)

      itself : (t : NetSet) → t ≡ m → Before m t
      itself t q = inr (ap nets_in (sym q), ap (λ x. net_model.less x m) q ∙ net_laws.less_irrefl m)

      -- a set above m with no fewer nets
      after : (s : NetSet) → net_model.less m s ≡ true → nets_in m ≤ nets_in s → (t : NetSet) → Before s t → Before m t
      after s h n t (inl x) = inl (omega arith)
      after s h n t (inr x) =
          ⊎_elim
          (λ e. inr (e ∙ x.0, ⊎_elim (λ y. absurd (true≢false (sym (net_laws.less_trans t m s y h) ∙ x.1))) (λ y. y) (cases_Bool (net_model.less t m))))
          (λ e. inl (let z = x.0 in omega arith))
          (cases_eq (nets_in m) (nets_in s))

      pub walk_apart : Walked ls' rs' (Some (better best m))
      walk_apart = go best w.found walked
        where
          go : (c : Option NetSet) → Found ls rs c
              → ((best' : Option NetSet) → ((t : NetSet) → t ≡ m → Ahead ls rs t → (coeff net_model t us ≡ coeff net_model t vs) ⊎ Best best' t) → ((t : NetSet) → Best c t → Best best' t) → Found ls' rs' best' → Walked ls' rs' best')
              → Walked ls' rs' (Some (better c m))
          go None f k = k (Some m) (λ t q h. inr (itself t q)) (λ t x. absurd x) new
          go (Some s) f k =
              ⊎_elim
              (λ e. subst (λ x. Walked ls' rs' (Some x)) (sym (cond-true (leb (nets_in m) (nets_in s)) m s e))
              (k (Some m) (λ t q h. inr (itself t q)) (after s (f.2 m o) (leb-true (nets_in m) (nets_in s) e)) new))
              (λ e. subst (λ x. Walked ls' rs' (Some x)) (sym (cond-false (leb (nets_in m) (nets_in s)) m s e))
              (k (Some s) (λ t q h. inr (inl (subst (λ x. nets_in s < nets_in x) (sym q) (leb-false (nets_in m) (nets_in s) e)))) (λ t x. x) (found_on (Some s) f)))
              (cases_Bool (leb (nets_in m) (nets_in s)))
