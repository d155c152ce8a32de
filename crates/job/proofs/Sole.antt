-- Each job has one text. Assumes nothing.
use Rattle.std.proofs.Common.{◌≡◌, ℕ, List, Ok, Err, Result, sym, ap, ◌∙◌, subst, subst₂}
use Rattle.algebra.specs.Shift.{shift_data}
use Rattle.fault.specs.Faults.{refusal_line}
use Rattle.fault.specs.declared.Fault.{Fault}
use Rattle.terms.specs.declared.Term.{Term}
use Rattle.terms.specs.declared.nets.NetSet.{NetSet}
use Rattle.netlist.specs.Circuits.{Circuit}
use Rattle.gates.specs.Answers.{Found}
use Rattle.gates.specs.Answers as gates
use Rattle.convert.specs.Convert.{stopped}
use Rattle.convert.specs.declared.FullTable.{FullTable}
use Rattle.cards.specs.Working.{card_working, card_fault}
use Rattle.ledger.specs.Rules.{Duals}
use Rattle.ledger.proofs.Workings.{one_form, one_bits, not_refused, finished_stopped, stopped_is, same_working}
use Rattle.job.specs.declared.card.Card.{Card}
use Rattle.job.specs.Answers.{CardOfCircuit, Carded, Refused, unopened, bits, words, Answered}
use Rattle.job.specs.Cards.{terms_of}
use Rattle.job.specs.Jobs.{Opened}
use Rattle.job.specs.Printed.{Printed, card, refusal, shown_outcome}
use Rattle.job.specs.Printing.{card_text}
use Rattle.job.proofs.Opening.{field_laws}
use Rattle.job.proofs.Once.{one_unopened, one_opened, not_unopened}

-- ---- the answer
module _ (job : List ℕ) where
  -- what a working finds full
  record Overflow (p k n : ℕ) (c : Circuit) (t : FullTable) : Type 0 where
    us : List (Term NetSet)
    found : Found c 512 us
    δ : ℕ → ℕ
    right : Duals (shift_data k p) δ
    ends : card_working (shift_data k p) n δ 512 512 us ≡ stopped t

  move : {p k n p' k' n' : ℕ} {c c' : Circuit} {t : FullTable} → Opened job p k n c → Opened job p' k' n' c' → Overflow p k n c t → Overflow p' k' n' c' t
  move {p} {k} {n} {p'} {k'} {n'} {c} {c'} {t} x y o =
      let e = one_opened job x y in
      subst₂ (λ (a b : ℕ). Overflow a b n' c' t) e.polynomial e.width (subst₂ (λ (a : ℕ) (d : Circuit). Overflow p k a d t) e.number e.same o)

  one_table : {p k n : ℕ} {c : Circuit} {s t : FullTable} → Opened job p k n c → Overflow p k n c s → Overflow p k n c t → s ≡ t
  one_table {p} {k} {n} {c} {s} {t} x a b =
      let m = shift_data k p in
      stopped_is s t (sym a.ends ∙ same_working m (field_laws x.field) n a.δ b.δ a.right b.right 512 512 a.us
      ∙ ap (card_working m n b.δ 512 512) (one_form c 512 a.found b.found) ∙ b.ends)

  no_overflow : {p k n : ℕ} {ts : List (Term (List ℕ))} {t : FullTable} (x : Carded job p k n ts) → Overflow p k n x.circuit t → ⊥
  no_overflow {p} {k} {n} {ts} {t} x o =
      let m = shift_data k p in
      finished_stopped ts t (sym x.worked ∙ same_working m (field_laws x.opened.field) n x.duals o.δ x.right o.right 512 512 x.bits
      ∙ ap (card_working m n o.δ 512 512) (one_form x.circuit 512 x.found o.found) ∙ o.ends)

  one_refused : {f g : Fault} → Refused job f → Refused job g → f ≡ g
  one_refused (unopened x) (unopened y) = one_unopened job x y
  one_refused (unopened x) (bits p k n c o r) = absurd (not_unopened job o x)
  one_refused (unopened x) (words p k n c o us found δ right t e) = absurd (not_unopened job o x)
  one_refused (bits p k n c o r) (unopened y) = absurd (not_unopened job o y)
  one_refused {f} (bits p k n c o r) (bits p' k' n' c' o' r') = one_bits c' 512 (subst (λ (d : Circuit). gates.Refused d 512 f) (one_opened job o o').same r) r'
  one_refused {f} (bits p k n c o r) (words p' k' n' c' o' us found δ right t e) = absurd (not_refused c' 512 found (subst (λ (d : Circuit). gates.Refused d 512 f) (one_opened job o o').same r))
  one_refused (words p k n c o us found δ right t e) (unopened y) = absurd (not_unopened job o y)
  one_refused {f} {g} (words p k n c o us found δ right t e) (bits p' k' n' c' o' r') = absurd (not_refused c 512 found (subst (λ (d : Circuit). gates.Refused d 512 g) (one_opened job o' o).same r'))
  one_refused (words p k n c o us found δ right t e) (words p' k' n' c' o' us' found' δ' right' t' e') =
      ap card_fault (one_table o' (move o o' (record { us = us; found = found; δ = δ; right = right; ends = e })) (record { us = us'; found = found'; δ = δ'; right = right'; ends = e' }))

  not_both : {p k n : ℕ} {ts : List (Term (List ℕ))} {f : Fault} → Carded job p k n ts → Refused job f → ⊥
  not_both x (unopened y) = not_unopened job x.opened y
  not_both {p} {k} {n} {ts} {f} x (bits p' k' n' c' o r) = not_refused x.circuit 512 x.found (subst (λ (d : Circuit). gates.Refused d 512 f) (one_opened job o x.opened).same r)
  not_both x (words p' k' n' c' o us found δ right t e) = no_overflow x (move o x.opened (record { us = us; found = found; δ = δ; right = right; ends = e }))

  one_card : {p k n p' k' n' : ℕ} {ts ts' : List (Term (List ℕ))} → Carded job p k n ts → Carded job p' k' n' ts' → card_text n k p ts ≡ card_text n' k' p' ts'
  one_card {p} {k} {n} {p'} {k'} {n'} {ts} {ts'} x y =
      let e = one_opened job x.opened y.opened in
      let at = subst₂ (λ (a b : ℕ). CardOfCircuit (shift_data b a) n' y.circuit ts) e.polynomial e.width
      (subst₂ (λ (a : ℕ) (d : Circuit). CardOfCircuit (shift_data k p) a d ts) e.number e.same x.card) in
      let same : ts ≡ ts' = y.card.only ts at.polynomial at.values in
      λ i. card_text (e.number i) (e.width i) (e.polynomial i) (same i)

  pub one_text : (out other : List ℕ) → Printed job out → Printed job other → other ≡ out
  one_text out other (card p k n ts x) (card p' k' n' ts' y) = one_card y x
  one_text out other (card p k n ts x) (refusal f y) = absurd (not_both x y)
  one_text out other (refusal f x) (card p k n ts y) = absurd (not_both y x)
  one_text out other (refusal f x) (refusal g y) = ap refusal_line (one_refused y x)

  -- what is shown of an answer is the text for the job
  pub shown : (r : Result Card Fault) → Answered job r → Printed job (shown_outcome (record { 0 = r }))
  shown (Ok c) x = card c.polynomial c.width c.words (terms_of c) x
  shown (Err f) x = refusal f x
