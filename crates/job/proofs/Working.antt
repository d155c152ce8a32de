-- From what is found on the shelf to what is answered to the job. Assumes nothing.
use Rattle.std.proofs.Common.{◌≡◌, ℕ, ◌<◌, ◌≤◌, ◌⊎◌, List, [], ◌∷◌, length, take, Some, None, Ok, Err, Option, Result, sym, refl, ap, ◌∙◌, subst, inl, inr, arith}
use Rattle.std.proofs.lemmas.List.{take_at}
use Rattle.std.proofs.lemmas.Bool.{cases_lt}
use Rattle.algebra.specs.Field.{FieldData}
use Rattle.algebra.specs.Shift.{shift_data}
use Rattle.fault.specs.declared.Fault.{Fault}
use Rattle.terms.specs.Additions.{Ended, done, full}
use Rattle.terms.specs.declared.Term.{Term}
use Rattle.terms.specs.declared.nets.NetSet.{NetSet}
use Rattle.terms.proofs.Members.{laws_of_sets}
use Rattle.netlist.specs.Circuits.{Circuit}
use Rattle.netlist.specs.Refusals as reader
use Rattle.gates.specs.Answers.{Found, no_row, too_many}
use Rattle.gates.specs.Reductions.{Worked}
use Rattle.gates.proofs.Enough.{always_ends}
use Rattle.gates.proofs.Ends.{values_kept}
use Rattle.gates.proofs.Once.{one_end}
use Rattle.gates.proofs.Sole.{only_form}
use Rattle.ledger.specs.Answers.{CardTable, Right}
use Rattle.ledger.specs.Filings.{Filing, text, IsForm}
use Rattle.ledger.specs.Ledgers.{Ledger, no_filings, put, sooner, Due, Accepted, Enters, enters_text, After, refused, accepted, Goes, call}
use Rattle.ledger.specs.Ledgers as ledgers
use Rattle.ledger.specs.Rules.{Call, filing, carding, beyond, filled, empty, file_drawer, file_reader, file_bits, card_drawer, card_full}
use Rattle.ledger.proofs.Decided.{some_is}
use Rattle.ledger.proofs.Forms.{text_form, one_bit_form}
use Rattle.cards.specs.Working.{word_count}
use Rattle.shelf.proofs.Filing.{counted}
use Rattle.audit.specs.Faithful.{Faithful, lent}
use Rattle.audit.specs.declared.findings.Findings.{Findings}
use Rattle.job.specs.Answers.{Carded, Refused, unopened, bits, words}
use Rattle.job.specs.Jobs.{Prepared, Opened}
use Rattle.job.proofs.Opening.{field_laws, unread, opened}

module _ (m : FieldData) (n : ℕ) where
  -- a list of one call
  one_call : {c : Call} {o : Option (ℕ × Fault)} {L : Ledger} → Goes m n no_filings 0 (c ∷ []) o L → (f : Option Fault) × (o ≡ sooner 0 f None) × After m n no_filings c f L
  one_call (call L i c cs f o K M a (ledgers.done _ _)) = (f, refl, a)

  first_fault : (f : Option Fault) (i : ℕ) (e : Fault) → Some (i, e) ≡ sooner 0 f None → f ≡ Some e
  first_fault (Some g) i e h = let q : ◌≡◌ {A = ℕ × Fault} (0, g) (i, e) = cc in ap (λ (x : ℕ × Fault). Some x.1) q
  first_fault None i e h = cc

  no_fault : (f : Option Fault) → None ≡ sooner 0 f None → f ≡ None
  no_fault (Some g) h = cc
  no_fault None h = refl

  after_refused : {L L' : Ledger} {c : Call} {e : Fault} → After m n L c (Some e) L' → Due m n L c e
  after_refused (refused e x) = x

  after_accepted : {L L' : Ledger} {c : Call} → After m n L c None L' → Accepted m n L c × Enters m n L c L'
  after_accepted (accepted L' x y) = (x, y)

  -- what a text that is entered was
  entered : {L : Ledger} {d w : ℕ} {bytes : List ℕ} {L' : Ledger} → Enters m n L (filing d bytes w) L' → (c : Circuit) × reader.Accepted n m.width bytes c × (L' ≡ put L d (Some (text c)))
  entered (enters_text d b w c a) = (c, a, refl)

module _ (job netlist : List ℕ) (p k n : ℕ) (ready : Prepared job p k n netlist) where
  abbrev m : FieldData
  m = shift_data k p

  abbrev file : Call
  file = filing 0 netlist 512

  -- the netlist is refused
  unfiled : (e : Fault) → Due m n no_filings file e → Refused job e
  unfiled e (file_drawer _ _ _ (beyond h)) = absurd (omega arith)
  unfiled e (file_drawer _ _ _ (filled f h q)) = cc
  unfiled e (file_reader _ _ _ f r) = unopened (unread ready r)
  unfiled e (file_bits _ _ _ f c a r) = bits p k c.words c (opened ready a) r

  -- an accepted netlist has a bit form that the gates' working ends in
  module _ (c : Circuit) (a : reader.Accepted n k netlist c) (none : Accepted m n no_filings file) where
    ended : (e : Ended NetSet) → Worked c 512 e → (us : List (Term NetSet)) × Found c 512 us
    ended (full us) w = absurd (none _ (file_bits 0 netlist 512 (record { number = omega arith; empty = refl }) c a (no_row us w (λ d x. one_end laws_of_sets c 512 d (full us) x w))))
    ended (done us) w = by (cases_lt 256 (length us))
      where
        by : (256 < length us) ⊎ (length us ≤ 256) → (us : List (Term NetSet)) × Found c 512 us
        by (inl h) = absurd (none _ (file_bits 0 netlist 512 (record { number = omega arith; empty = refl }) c a (too_many us w (λ d x. one_end laws_of_sets c 512 d (done us) x w) h)))
        by (inr h) =
            let f = values_kept laws_of_sets c 512 (done us) a.formed w in
            (us, record { worked = w; only = λ d x. one_end laws_of_sets c 512 d (done us) x w; form = f; sole = λ vs g. only_form c vs us g f; few = h })

    found : (us : List (Term NetSet)) × Found c 512 us
    found = let e = always_ends c 512 a.formed in ended e.0 e.1

    -- it is the bit form of the filing
    found_form : (us : List (Term NetSet)) → IsForm m n (text c) us → Found c 512 us
    found_form us f = let x = found in subst (Found c 512) (one_bit_form m n (text c) x.0 us (text_form m (field_laws ready.field) n ready.few netlist c x.0 a x.1.form) f) x.1

    open_job : Opened job p k n c
    open_job = subst (λ (i : ℕ). Opened job p k i c) a.words (opened ready a)

    made : (j : ℕ) (left : List (Term (List ℕ))) → CardTable m n (text c) 512 512 512 j left → Carded job p k n (take j left)
    made j left t =
        let terms : t.terms ≡ take j left = sym (ap (take j) t.table_is ∙ take_at t.terms _ j (sym t.count)) in
        subst (Carded job p k n) terms (record {
          circuit = c;
          opened = open_job;
          card = t.card;
          bits = t.form;
          found = found_form t.form t.is_form;
          duals = t.dual;
          right = t.duals;
          worked = t.worked;
        })

    -- a table is full on the way to words
    stopped : (L : Ledger) → L 0 ≡ Some (text c) → (e : Fault) → Due m n L (carding 0 512 512 512) e → Refused job e
    stopped L h e (card_drawer _ _ _ _ (beyond x)) = absurd (omega arith)
    stopped L h e (card_drawer _ _ _ _ (empty x y)) = cc
    stopped L h e (card_full _ _ _ _ f s us g δ d t q) =
        let same : f ≡ text c = some_is (L 0) f (text c) s.filled h in
        words p k n c open_job us (found_form us (subst (λ (i : Filing). IsForm m n i us) same g)) δ d t q

  module _ (i : ℕ) (e : i ≡ n) (xs : List ℕ) (out : Findings) (left right : List (Term (List ℕ))) (given : Faithful m (word_count i) (file ∷ []) 0 15 xs (lent 512 512 512 0) out left right) where
    f : Faithful m n (file ∷ []) 0 15 xs (lent 512 512 512 0) out left right
    f = subst (λ (j : ℕ). Faithful m j (file ∷ []) 0 15 xs (lent 512 512 512 0) out left right) (ap word_count e ∙ counted n ready.some ready.few) given

    pub was_refused : (at : ℕ) (fault : Fault) → out.refused ≡ Some (at, fault) → Refused job fault
    was_refused at fault h =
        let one = one_call m n f.the_ledger.led in
        unfiled fault (after_refused m n (subst (λ (o : Option Fault). After m n no_filings file o f.ledger) (first_fault m n one.0 at fault (sym h ∙ one.1)) one.2))

    module _ (h : out.refused ≡ None) where
      entry : Accepted m n no_filings file × Enters m n no_filings file f.ledger
      entry =
          let one = one_call m n f.the_ledger.led in
          after_accepted m n (subst (λ (o : Option Fault). After m n no_filings file o f.ledger) (no_fault m n one.0 (sym h ∙ one.1)) one.2)

      filed : (c : Circuit) × reader.Accepted n m.width netlist c × (f.ledger 0 ≡ Some (text c))
      filed = let x = entered m n entry.1 in (x.0, x.1, ap (λ (L : Ledger). L 0) x.2)

      pub was_carded : (j : ℕ) → out.left ≡ Ok j → Carded job p k i (take j left)
      was_carded j q = subst (λ (w : ℕ). Carded job p k w (take j left)) (sym e) (made filed.0 filed.1 entry.0 j left (f.left_card (text filed.0) filed.2 j q))

      pub few_rows : (j : ℕ) → out.left ≡ Ok j → j ≤ 512
      few_rows j q = let t = f.left_card (text filed.0) filed.2 j q in omega (arith, t.count, t.within)

      pub was_full : (fault : Fault) → out.left ≡ Err fault → Refused job fault
      was_full fault q =
          let r : Right m n f.ledger (carding 0 512 512 512) (Err fault, left) = subst (λ (o : Result ℕ Fault). Right m n f.ledger (carding 0 512 512 512) (o, left)) q f.left_right in
          stopped filed.0 filed.1 entry.0 f.ledger filed.2 fault r.0.0
