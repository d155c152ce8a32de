-- From what a call does to the drawers to what it answers by the ledger. Assumes nothing.
use Rattle.std.proofs.Common.{◌≡◌, ℕ, ◌-◌, ◌≤◌, min, Bool, true, false, cond, eqb, List, ◌++◌, length, take, replicate, Some, None, Ok, Err, Option, Result, sym, refl, ap, ◌∙◌, subst, ap₂, subst₂, mul-le-mul_right, arith, length-take-le}
use Rattle.std.proofs.lemmas.List.{take-append-drop}
use Rattle.algebra.specs.Field.{FieldData, FieldLaws}
use Rattle.fault.specs.declared.Fault.{Fault}
use Rattle.terms.specs.Terms.{blank}
use Rattle.terms.specs.declared.Term.{Term}
use Rattle.terms.specs.declared.nets.NetSet.{NetSet}
use Rattle.terms.specs.Values.{value_under, bit_at}
use Rattle.forms.specs.Differences.{LeastDifference}
use Rattle.forms.specs.Inputs.{Width}
use Rattle.forms.specs.Theorems.{FormIn, TwoForms}
use Rattle.forms.proofs.First.{difference_laws}
use Rattle.ledger.specs.declared.Compared.{Compared}
use Rattle.ledger.specs.declared.Compared.TheVariants.{Same, Differ}
use Rattle.ledger.specs.Filings.{Filing, text, rows, IsForm}
use Rattle.ledger.specs.Rules.{Call, filing, card_filing, withdrawing, comparing, valuing, carding, Free, NotFree, Shows, ShowsNothing, Refused, beyond, filled, empty, file_drawer, file_reader, file_bits, rows_drawer, rows_bad, rows_bits, withdraw_drawer, compare_first, compare_second, compare_first_empty, compare_second_empty, value_drawer, value_word, card_drawer, card_full}
use Rattle.ledger.specs.Ledgers.{Ledger, put, Due, After, refused, accepted, enters_text, enters_rows, enters_none, compare_leaves, value_leaves, card_leaves}
use Rattle.ledger.specs.Answers.{Answer, CardTable, words_of, Apart, Tells, Right, fault_in}
use Rattle.ledger.specs.Drawers.{Held, Itself, SameHeld, Puts, Difference, Told, Does}
use Rattle.ledger.specs.Laws.{Stands, Holds, Turn}
use Rattle.ledger.proofs.Forms.{text_form, rows_form, one_bit_form, form_card}
use Rattle.cards.specs.Law.{BitForm}
use Rattle.cards.specs.Sums.{card_kind}
use Rattle.cards.specs.Working.{CardAnswered}
use Rattle.ledger.proofs.Decided.{some_is, one_refusal, file_none, rows_none, withdraw_none, compare_none, value_none, card_none}

module _ (m : FieldData) (n : ℕ) where
  -- ---- one drawer
  stands_empty : (o : Option Filing) (h : Option (List (Term NetSet))) → Stands m n o h → h ≡ None → o ≡ None
  stands_empty None h s e = refl
  stands_empty (Some f) None s e = absurd s
  stands_empty (Some f) (Some us) s e = let z : ◌≡◌ {A = ℕ} 0 1 = cc in absurd (omega arith)

  -- what is filed where terms are held
  record Filed (o : Option Filing) (us : List (Term NetSet)) : Type 0 where
    filing : Filing
    is : o ≡ Some filing
    form : IsForm m n filing us

  stands_filled : (o : Option Filing) (h : Option (List (Term NetSet))) (us : List (Term NetSet)) → Stands m n o h → h ≡ Some us → Filed o us
  stands_filled None None us s e = let z : ◌≡◌ {A = ℕ} 0 1 = cc in absurd (omega arith)
  stands_filled None (Some vs) us s e = absurd s
  stands_filled (Some f) None us s e = absurd s
  stands_filled (Some f) (Some vs) us s e = let q : vs ≡ us = cc in record { filing = f; is = refl; form = subst (IsForm m n f) q s.1 }

  -- ---- all drawers
  module _ (L : Ledger) (at : Held) (holds : Holds m n L at) where
    free : (d : ℕ) → Free at d → Free L d
    free d f = record { number = f.number; empty = stands_empty (L d) (at d) (holds d) f.empty }

    filed : (d : ℕ) (us : List (Term NetSet)) → at d ≡ Some us → Filed (L d) us
    filed d us e = stands_filled (L d) (at d) us (holds d) e

    shows : (d : ℕ) (us : List (Term NetSet)) (s : Shows at d us) → Shows L d (filed d us s.filled).filing
    shows d us s = record { number = s.number; filled = (filed d us s.filled).is }

    not_free : (d : ℕ) (e : Fault) → NotFree at d e → NotFree L d e
    not_free d e (beyond x) = beyond x
    not_free d e (filled us x y) = let f = filed d us y in filled f.filing x f.is

    shows_nothing : (d : ℕ) (e : Fault) → ShowsNothing at d e → ShowsNothing L d e
    shows_nothing d e (beyond x) = beyond x
    shows_nothing d e (empty x y) = empty x (stands_empty (L d) (at d) (holds d) y)

    -- a refusal by the drawers is one by the ledger
    due : (c : Call) (e : Fault) → Refused m n at Itself c e → Due m n L c e
    due c e (file_drawer d b w x) = file_drawer d b w (not_free d e x)
    due c e (file_reader d b w f x) = file_reader d b w (free d f) x
    due c e (file_bits d b w f k a x) = file_bits d b w (free d f) k a x
    due c e (rows_drawer d ts p s r x) = rows_drawer d ts p s r (not_free d e x)
    due c e (rows_bad d ts p s r f i x) = rows_bad d ts p s r (free d f) i x
    due c e (rows_bits d ts p s r f q x) = rows_bits d ts p s r (free d f) q x
    due c e (withdraw_drawer d x) = withdraw_drawer d (shows_nothing d e x)
    due c e (compare_first d b x) = compare_first d b x
    due c e (compare_second d b x y) = compare_second d b x y
    due c e (compare_first_empty d b x y z) = compare_first_empty d b x y (stands_empty (L d) (at d) (holds d) z)
    due c e (compare_second_empty d b us x y z w) = let f = filed d us z in compare_second_empty d b f.filing x y f.is (stands_empty (L b) (at b) (holds b) w)
    due c e (value_drawer d xs x) = value_drawer d xs (shows_nothing d e x)
    due c e (value_word d xs us s x) = value_word d xs (filed d us s.filled).filing (shows d us s) x
    due c e (card_drawer d p s t x) = card_drawer d p s t (shows_nothing d e x)
    due c e (card_full d p s t us h vs q δ u k x) =
        let f = filed d us h.filled in
        card_full d p s t f.filing (shows d us h) vs (subst (IsForm m n f.filing) (sym q) f.form) δ u k x

    -- drawers that hold what they held
    kept : (at' : Held) → SameHeld at at' → Holds m n L at'
    kept at' same d = subst (Stands m n (L d)) (sym (same d)) (holds d)

    -- another entry
    entered : (at' : Held) (d : ℕ) (o : Option Filing) (h : Option (List (Term NetSet))) → Stands m n o h → Puts at d h at' → Holds m n (put L d o) at'
    entered at' d o h s p e = subst (Stands m n (put L d o e)) (sym (p e)) (by (eqb e d))
      where
        by : (b : Bool) → Stands m n (cond b o (L e)) (cond b h (at e))
        by true = s
        by false = holds e

  module _ (l : FieldLaws m) (few : n ≤ 3) (at at' : Held) (L : Ledger) (holds : Holds m n L at) where
    -- a call that is refused
    abbrev Refusal : Call → Fault → Type 0
    Refusal c e = (Due m n L c e × ((e' : Fault) → Due m n L c e' → e' ≡ e)) × ((L' : Ledger) × After m n L c (Some e) L' × Holds m n L' at')

    refusal : (c : Call) (e : Fault) → Refused m n at Itself c e → SameHeld at at' → Refusal c e
    refusal c e r same =
        let u = due L at holds c e r in
        ((u, λ e' v. one_refusal m l n L (IsForm m n) (one_bit_form m n) v u), (L, refused e u, kept L at holds at' same))

    -- and one that is accepted
    abbrev Entry : Call → Type 0
    Entry c = (L' : Ledger) × After m n L c None L' × Holds m n L' at'

    -- the card table
    drawn : (d p s c : ℕ) (us : List (Term NetSet)) (j : ℕ) (table : List (Term (List ℕ))) → CardAnswered m n (min p s) c us table (Ok j) → length table ≡ c → (f : Filing) → IsForm m n f us → CardTable m n f p s c j table
    drawn d p s c us j table a long f form =
        let t = a.worked.1 in
        let count : length (take j table) ≡ j = length-take-le j table t.within in
        record {
          terms = take j table;
          card = form_card m n f us (take j table) form (a.made form.bit_form.terms);
          form = us;
          is_form = form;
          dual = a.dual;
          duals = a.duals;
          worked = a.worked.0;
          count = sym count;
          within = omega (arith, t.within);
          table_is = sym (take-append-drop j table) ∙ ap (λ z. take j table ++ z) (t.rest ∙ ap (λ (i : ℕ). replicate i (blank (card_kind m n))) (ap₂ (λ (a b : ℕ). a - b) long (sym count)));
        }

    file_turn : (d : ℕ) (bytes : List ℕ) (w : ℕ) (r : Result ℕ Fault) → Does m n at at' (filing d bytes w) r → Right m n L (filing d bytes w) r × ((L' : Ledger) × After m n L (filing d bytes w) (fault_in r) L' × Holds m n L' at')
    file_turn d bytes w (Err e) x = refusal (filing d bytes w) e x.0 x.1
    file_turn d bytes w (Ok j) x =
        let none = file_none m l n L (IsForm m n) (one_bit_form m n) d bytes w (free L at holds d x.free) x.circuit x.accepted x.form x.found in
        let form = text_form m l n few bytes x.circuit x.form x.accepted x.found.form in (
          (none, (x.circuit, x.accepted, (x.form, form, x.count))),
          (
            put L d (Some (text x.circuit)),
            accepted (put L d (Some (text x.circuit))) none (enters_text d bytes w x.circuit x.accepted),
            entered L at holds at' d (Some (text x.circuit)) (Some x.form) ((x.accepted.words, x.accepted.width, x.accepted.formed), form) x.held,
          ),
        )

    rows_turn : (d : ℕ) (ts : List (Term (List ℕ))) (p s t : ℕ) (r : Result ℕ Fault) → Does m n at at' (card_filing d ts p s t) r
        → Right m n L (card_filing d ts p s t) r × ((L' : Ledger) × After m n L (card_filing d ts p s t) (fault_in r) L' × Holds m n L' at')
    rows_turn d ts p s t (Err e) x = refusal (card_filing d ts p s t) e x.0 x.1
    rows_turn d ts p s t (Ok j) x =
        let none = rows_none m l n L (IsForm m n) (one_bit_form m n) d ts p s t (free L at holds d x.free) x.polynomial x.form x.worked x.few in
        let form = rows_form m n ts x.form x.is_form in (
          (none, (x.form, form, x.count)),
          (put L d (Some (rows ts)), accepted (put L d (Some (rows ts))) none (enters_rows d ts p s t), entered L at holds at' d (Some (rows ts)) (Some x.form) (x.polynomial, form) x.held),
        )

    withdraw_turn : (d : ℕ) (r : Result ℕ Fault) → Does m n at at' (withdrawing d) r → Right m n L (withdrawing d) r × ((L' : Ledger) × After m n L (withdrawing d) (fault_in r) L' × Holds m n L' at')
    withdraw_turn d (Err e) x = refusal (withdrawing d) e x.0 x.1
    withdraw_turn d (Ok j) x =
        let f = filed L at holds d x.form x.shown.filled in
        let none = withdraw_none m l n L (IsForm m n) (one_bit_form m n) d f.filing (shows L at holds d x.form x.shown) in (
          (none, (f.filing, f.is, (x.form, f.form, x.count))),
          (put L d None, accepted (put L d None) none (enters_none d), entered L at holds at' d None None tt x.held),
        )

    -- a filing that the ledger shows where terms are held has these for its bit form
    form_at : (d : ℕ) (us : List (Term NetSet)) → at d ≡ Some us → (f : Filing) → L d ≡ Some f → IsForm m n f us
    form_at d us e f h = let x = filed L at holds d us e in subst (λ (g : Filing). IsForm m n g us) (some_is (L d) x.filing f x.is h) x.form

    value_turn : (d : ℕ) (xs : List ℕ) (r : Result ℕ Fault) → Does m n at at' (valuing d xs) r → Right m n L (valuing d xs) r × ((L' : Ledger) × After m n L (valuing d xs) (fault_in r) L' × Holds m n L' at')
    value_turn d xs (Err e) x = refusal (valuing d xs) e x.0.0 x.1
    value_turn d xs (Ok v) x =
        let y = x.0 in
        let f = filed L at holds d y.form y.shown.filled in
        let none = value_none m l n L (IsForm m n) (one_bit_form m n) d xs f.filing (shows L at holds d y.form y.shown) y.input in (
          (none, λ g h. y.value ∙ (form_at d y.form y.shown.filled g h).values xs y.input),
          (L, accepted L none (value_leaves d xs), kept L at holds at' x.1),
        )

    card_turn : (d p s c : ℕ) (r : Result ℕ Fault) (table : List (Term (List ℕ))) → Does m n at at' (carding d p s c) (r, table)
        → Right m n L (carding d p s c) (r, table) × ((L' : Ledger) × After m n L (carding d p s c) (fault_in r) L' × Holds m n L' at')
    card_turn d p s c (Err e) table x = let y = refusal (carding d p s c) e x.0.0 x.1 in ((y.0, x.0.1), y.1)
    card_turn d p s c (Ok j) table x =
        let us = x.0.0 in
        let shown = x.0.1 in
        let a = x.0.2 in
        let f = filed L at holds d us shown.filled in
        let none = card_none m l n L (IsForm m n) (one_bit_form m n) d p s c f.filing (shows L at holds d us shown) us f.form a.dual a.duals (take j table) a.worked.0 in (
          ((none, λ g h. drawn d p s c us j table a x.0.3 g (form_at d us shown.filled g h)), tt),
          (L, accepted L none (card_leaves d p s c), kept L at holds at' x.1),
        )

    -- two filings whose bit forms differ
    apart : (us vs : List (Term NetSet)) (f g : Filing) (x : ℕ × ℕ × ℕ × ℕ × ℕ) → IsForm m n f us → IsForm m n g vs → Difference m.width us vs x → Apart m n f g x
    apart us vs f g x a b y =
        let form_in : (ts : List (Term NetSet)) → BitForm m n ts → FormIn m.width n ts =
        λ ts t. record { form = record { own = t.sets; falling = t.falling; nonzero = t.nonzero }; within = t.terms.within } in
        let width : Width m.width = (omega (arith, l.narrow), omega (arith, l.wide)) in
        let two : TwoForms m.width n us vs = record { width = width; few = few; left = form_in us a.bit_form; right = form_in vs b.bit_form } in
        let first = (difference_laws.first m.width n us vs two y.set (words_of x) y.least y.words).0 in
        record {
          input = first.input;
          left = y.left ∙ a.values (words_of x) first.input;
          right = y.right ∙ b.values (words_of x) first.input;
          differ = λ e. first.apart (sym y.left ∙ e ∙ y.right);
          least = λ ys i d. first.first ys i (λ same. d (sym (a.values ys i) ∙ same ∙ b.values ys i));
          picked = λ us' vs' a' b'. (
            y.set,
            subst₂ (λ (ss ts : List (Term NetSet)). LeastDifference ss ts y.set) (one_bit_form m n f us us' a a') (one_bit_form m n g vs vs' b b') y.least,
            λ i h. y.words.bits i (let q = mul-le-mul_right m.width few in omega (arith, q)),
          );
        }

    told : (us vs : List (Term NetSet)) (f g : Filing) → IsForm m n f us → IsForm m n g vs → (v : Compared) → Told m.width us vs v → Tells m n f g v
    told us vs f g a b Same e = λ xs i. sym (a.values xs i) ∙ ap (value_under (bit_at m.width xs)) e ∙ b.values xs i
    told us vs f g a b (Differ x) y = apart us vs f g x a b y

    compare_turn : (d b : ℕ) (r : Result Compared Fault) → Does m n at at' (comparing d b) r → Right m n L (comparing d b) r × ((L' : Ledger) × After m n L (comparing d b) (fault_in r) L' × Holds m n L' at')
    compare_turn d b (Err e) x = refusal (comparing d b) e x.0.0 x.1
    compare_turn d b (Ok v) x =
        let y = x.0 in
        let f = filed L at holds d y.left y.left_shown.filled in
        let g = filed L at holds b y.right y.right_shown.filled in
        let none = compare_none m l n L (IsForm m n) (one_bit_form m n) d b f.filing g.filing (shows L at holds d y.left y.left_shown) (shows L at holds b y.right y.right_shown) in (
          (none, λ h k p q. told y.left y.right h k (form_at d y.left y.left_shown.filled h p) (form_at b y.right y.right_shown.filled k q) v y.told),
          (L, accepted L none (compare_leaves d b), kept L at holds at' x.1),
        )

-- what a call does to the drawers fixes its answer by every ledger that holds of them
pub turns : (m : FieldData) → FieldLaws m → (n : ℕ) → n ≤ 3 → (at at' : Held) (c : Call) (a : Answer c) → Does m n at at' c a → Turn m n c at at' a
turns m l n few at at' (filing d bytes w) a x = λ L h. file_turn m n l few at at' L h d bytes w a x
turns m l n few at at' (card_filing d ts p s r) a x = λ L h. rows_turn m n l few at at' L h d ts p s r a x
turns m l n few at at' (withdrawing d) a x = λ L h. withdraw_turn m n l few at at' L h d a x
turns m l n few at at' (comparing d b) a x = λ L h. compare_turn m n l few at at' L h d b a x
turns m l n few at at' (valuing d xs) a x = λ L h. value_turn m n l few at at' L h d xs a x
turns m l n few at at' (carding d p s c) a x = λ L h. card_turn m n l few at at' L h d p s c a.0 a.1 x
