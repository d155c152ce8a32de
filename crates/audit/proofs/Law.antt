-- The law, from what the calls promise. Assumes nothing.
use Rattle.std.proofs.Common.{◌≡◌, ℕ, ◌≤◌, min, List, [], ◌∷◌, map, length, take, Some, None, Ok, Err, Option, Result, sym, refl, ap, ◌∙◌, subst, ap₂, subst₂, arith}
use mathlib.Core.Path.{subst₃}
use Rattle.std.proofs.lemmas.List.{take_at}
use Rattle.algebra.specs.Field.{FieldData, FieldLaws}
use Rattle.fault.specs.declared.Fault.{Fault}
use Rattle.terms.specs.Terms.{padded}
use Rattle.terms.specs.declared.Term.{Term}
use Rattle.terms.specs.declared.nets.NetSet.{NetSet}
use Rattle.cards.specs.Law.{Polynomial, card_value}
use Rattle.cards.specs.Sums.{card_kind}
use Rattle.ledger.specs.declared.Compared.{Compared}
use Rattle.ledger.specs.declared.Compared.TheVariants.{Same, Differ}
use Rattle.ledger.specs.Answers.{Answer, Apart, Tells, CardTable, Outcome, Right}
use Rattle.ledger.specs.Filings.{Filing, rows, Agree, IsForm, Lawful}
use Rattle.ledger.specs.Laws.{Stands, Holds, Turn}
use Rattle.ledger.specs.Ledgers.{Ledger, no_filings, Due, Led}
use Rattle.ledger.specs.Rules.{Call, filing, comparing, valuing, carding, Shows}
use Rattle.ledger.proofs.Decided.{compare_none, value_none}
use Rattle.ledger.proofs.Forms.{one_bit_form}
use Rattle.ledger.proofs.Once.{one_ledger}
use Rattle.shelf.specs.Held.{held_at}
use Rattle.shelf.specs.Promises.{Promise}
use Rattle.shelf.specs.declared.store.Drawer.{Drawer}
use Rattle.shelf.specs.declared.store.Words.{Words}
use Rattle.audit.specs.declared.entries.Entry.{Entry}
use Rattle.audit.specs.declared.entries.Entry.TheVariants.{File, FileCard, Withdraw, Compare, Value, Card}
use Rattle.audit.specs.declared.findings.Findings.{Findings}
use Rattle.audit.specs.Entries.{Tables, call_of, calls_of, named, Fits, AllFit}
use Rattle.audit.specs.Faithful.{Lent, Faithful}
use Rattle.audit.specs.Runs.{Runs}
use Rattle.audit.proofs.Numbered.{filed_low}
use Rattle.audit.proofs.Steps.{same_filing, same_carding}

-- an answer where nothing is due
accepted : {A : Type 0} (m : FieldData) (n : ℕ) (L : Ledger) (c : Call) (P : A → Type 0) (r : Result A Fault) → ((e : Fault) → Due m n L c e → ⊥) → Outcome m n L c P r → (v : A) × (r ≡ Ok v) × P v
accepted m n L c P (Ok v) none o = (v, refl, o.1)
accepted m n L c P (Err e) none o = absurd (none e o.0)

-- a known answer
at_ok : {A : Type 0} (m : FieldData) (n : ℕ) (L : Ledger) (c : Call) (P : A → Type 0) (r : Result A Fault) (v : A) → r ≡ Ok v → Outcome m n L c P r → P v
at_ok {A} m n L c P r v e o = (subst (λ (x : Result A Fault). Outcome m n L c P x) e o).1

-- the terms of a card table
card_terms : (m : FieldData) (n : ℕ) (f : Filing) (p s c j : ℕ) (table : List (Term (List ℕ))) (t : CardTable m n f p s c j table) → take j table ≡ t.terms
card_terms m n f p s c j table t = ap (take j) t.table_is ∙ take_at t.terms _ j (sym t.count)

-- what compare tells decides whether two filings agree
module _ (m : FieldData) (n : ℕ) (f g : Filing) (r : Result Compared Fault) where
  tells_same : (w : Compared) → r ≡ Ok w → Tells m n f g w → r ≡ Ok Same → Agree m n f g
  tells_same Same e t s = t
  tells_same (Differ x) e t s = let z : ◌≡◌ {A = ℕ} 0 1 = cc in absurd (omega arith)

  same_tells : (w : Compared) → r ≡ Ok w → Tells m n f g w → Agree m n f g → r ≡ Ok Same
  same_tells Same e t s = e
  same_tells (Differ x) e t s = absurd (t.differ (t.left ∙ s _ t.input ∙ sym t.right))

  tells_differ : (w : Compared) → r ≡ Ok w → Tells m n f g w → (Agree m n f g → ⊥) → (x : ℕ × ℕ × ℕ × ℕ × ℕ) × (r ≡ Ok (Differ x)) × Apart m n f g x
  tells_differ Same e t d = absurd (d t)
  tells_differ (Differ x) e t d = (x, e, t)

module _ (m : FieldData) (l : FieldLaws m) (n : ℕ) (cs : List Call) (ds : List Drawer) (L : Ledger) (holds : Holds m n L (held_at ds))
    (a b : ℕ) (xs : List ℕ) (T : Lent) (out : Findings) (left right : List (Term (List ℕ))) (led : Led m n cs out.refused L)
    (r1 : Right m n L (comparing a b) out.compared) (r2 : Right m n L (valuing a xs) out.value)
    (r3 : Right m n L (carding a T.first T.second T.left) (out.left, left)) (r4 : Right m n L (carding b T.first T.second T.right) (out.right, right)) where
  -- a drawer with a filing is one of the sixteen
  shown : (d : ℕ) (f : Filing) → L d ≡ Some f → Shows L d f
  shown d f e = record { number = filed_low m n led d f e; filled = e }

  -- and lawful
  stands_lawful : (o : Option Filing) (h : Option (List (Term NetSet))) (f : Filing) → Stands m n o h → o ≡ Some f → Lawful m n f
  stands_lawful None h f s e = let z : ◌≡◌ {A = ℕ} 0 1 = cc in absurd (omega arith)
  stands_lawful (Some g) None f s e = absurd s
  stands_lawful (Some g) (Some us) f s e = let q : g ≡ f = cc in subst (Lawful m n) q s.0

  told : (f g : Filing) → L a ≡ Some f → L b ≡ Some g → (w : Compared) × (out.compared ≡ Ok w) × Tells m n f g w
  told f g p q =
      let t = accepted m n L (comparing a b) _ out.compared (compare_none m l n L (IsForm m n) (one_bit_form m n) a b f g (shown a f p) (shown b g q)) r1 in
      (t.0, t.1, t.2 f g p q)

  card_a : (f : Filing) → L a ≡ Some f → (i : ℕ) → out.left ≡ Ok i → CardTable m n f T.first T.second T.left i left
  card_a f p i e = at_ok m n L (carding a T.first T.second T.left) _ out.left i e r3.0 f p

  card_b : (g : Filing) → L b ≡ Some g → (j : ℕ) → out.right ≡ Ok j → CardTable m n g T.first T.second T.right j right
  card_b g q j e = at_ok m n L (carding b T.first T.second T.right) _ out.right j e r4.0 g q

  pub faithful : Faithful m n cs a b xs T out left right
  faithful = record {
    ledger = L;
    the_ledger = record { led = led; only = λ o' L' x. one_ledger m l n cs o' out.refused L' L x led };
    compare_right = r1;
    value_right = r2;
    left_right = r3;
    right_right = r4;
    cards = λ f g p q i j ei ej.
        let A = card_a f p i ei in
        let B = card_b g q j ej in
        let sa = card_terms m n f _ _ _ i left A in
        let sb = card_terms m n g _ _ _ j right B in (
          (λ e ys h. sym (A.card.values ys h) ∙ ap (λ (ts : List (Term (List ℕ))). card_value m ts ys) (sym sa ∙ e ∙ sb) ∙ B.card.values ys h),
          (λ s. sa ∙ sym (A.card.only B.terms B.card.polynomial (λ ys h. B.card.values ys h ∙ sym (s ys h))) ∙ sym sb),
        );
    same = λ f g p q. let t = told f g p q in (tells_same m n f g out.compared t.0 t.1 t.2, same_tells m n f g out.compared t.0 t.1 t.2);
    differ = λ f g p q d. let t = told f g p q in tells_differ m n f g out.compared t.0 t.1 t.2 d;
    value = λ f p i. let t = accepted m n L (valuing a xs) _ out.value (value_none m l n L (IsForm m n) (one_bit_form m n) a xs f (shown a f p) i) r2 in t.1 ∙ ap (λ (v : ℕ). Ok v) (t.2 f p);
    left_card = card_a;
    right_card = card_b;
    again = λ ts p i e.
        let A = card_a (rows ts) p i e in
        let s : ts ≡ A.terms = A.card.only ts (stands_lawful (L a) (held_at ds a) (rows ts) (holds a) p) (λ ys h. refl) in
        (A.count ∙ ap length (sym s), A.table_is ∙ ap (padded (card_kind m n) T.left) (sym s));
    back = λ f p i e.
        let A = card_a f p i e in
        let s = card_terms m n f _ _ _ i left A in
        (subst (Polynomial m n) (sym s) A.card.polynomial, λ ys h. ap (λ (ts : List (Term (List ℕ))). card_value m ts ys) s ∙ A.card.values ys h);
  }

-- the same, from the run and the promises of the last calls, where the shelf was made for n words over the field f, and keeps both
pub audited : {F : Type 0} (model : F → FieldData) (f : F) (n : ℕ) (w v : Words F) → w.field ≡ f → w.count ≡ n → v ≡ w → FieldLaws (model f) → (cs : List Call) (xs ds : List Drawer)
    → ((d : ℕ) → held_at xs d ≡ None) → (a b : ℕ) (ws : List ℕ) (T : Lent) (out : Findings) (left right : List (Term (List ℕ))) → Runs (model w.field) w.count cs xs ds out.refused
    → Promise (model v.field) v.count (comparing a b) ds ds out.compared → Promise (model v.field) v.count (valuing a ws) ds ds out.value
    → Promise (model v.field) v.count (carding a T.first T.second T.left) ds ds (out.left, left) → Promise (model v.field) v.count (carding b T.first T.second T.right) ds ds (out.right, right)
    → Faithful (model f) n cs a b ws T out left right
audited {F} model f n w v e q k l cs xs ds none a b ws T out left right run p1 p2 p3 p4 =
    let m = model f in
    let fresh : Holds m n no_filings (held_at xs) = λ d. subst (Stands m n None) (sym (none d)) tt in
    let r = subst₂ (λ (x : F) (j : ℕ). Runs (model x) j cs xs ds out.refused) e q run no_filings fresh in
    let at : (c : Call) (y : Answer c) → Promise (model v.field) v.count c ds ds y → Right m n r.0 c y =
    λ c y h. (subst₂ (λ (x : F) (j : ℕ). Turn (model x) j c (held_at ds) (held_at ds) y) (ap (λ (u : Words F). u.field) k ∙ e) (ap (λ (u : Words F). u.count) k ∙ q) h.turn r.0 r.2).0 in
    faithful m l n cs ds r.0 r.2 a b ws T out left right r.1 (at (comparing a b) out.compared p1) (at (valuing a ws) out.value p2)
    (at (carding a T.first T.second T.left) (out.left, left) p3) (at (carding b T.first T.second T.right) (out.right, right) p4)

-- tables as long as they were
pub relent : (m : FieldData) (n d : ℕ) (ds : List Drawer) (r : Result ℕ Fault) (table : List (Term (List ℕ))) {p s c p' s' c' : ℕ} → p ≡ p' → s ≡ s' → c ≡ c' → Promise m n (carding d p s c) ds ds (r, table)
    → Promise m n (carding d p' s' c') ds ds (r, table)
relent m n d ds r table x y z h = subst₃ (λ (p s c : ℕ). Promise m n (carding d p s c) ds ds (r, table)) x y z h

-- ---- entries that fit
fits_min : (a b : ℕ) → a ≤ b → min a b ≡ a
fits_min a b h = omega arith

call_named : (T : Tables) (e : Entry) → Fits T e → call_of T e ≡ named e
call_named T (File d bytes w) h = ap (filing d bytes.now) (fits_min w T.work h)
call_named T (FileCard d ts p s r) h = same_filing d ts.now (fits_min p T.bits_first h.0) (fits_min s T.bits_second h.1) (fits_min r T.work h.2)
call_named T (Withdraw d) h = refl
call_named T (Compare d b) h = refl
call_named T (Value d xs) h = refl
call_named T (Card d p s c) h = same_carding d (fits_min p T.first h.0) (fits_min s T.second h.1) (fits_min c T.card h.2)

pub calls_named : (T : Tables) (es : List Entry) → AllFit T es → calls_of T es ≡ map named es
calls_named T [] h = refl
calls_named T (e ∷ es) h = ap₂ (λ (c : Call) (cs : List Call). c ∷ cs) (call_named T e h.0) (calls_named T es h.1)
