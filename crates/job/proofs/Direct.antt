-- From what the workings answer, with no shelf, to what is answered to the job. Assumes nothing.
use Rattle.std.proofs.Common.{◌≡◌, ℕ, List, take, Ok, Err, sym, ap, ◌∙◌, subst, subst₂}
use Rattle.std.proofs.lemmas.List.{take_at}
use Rattle.algebra.specs.Field.{FieldData}
use Rattle.algebra.specs.Shift.{shift_data}
use Rattle.fault.specs.declared.Fault.{Fault}
use Rattle.terms.specs.declared.Term.{Term}
use Rattle.terms.specs.declared.nets.NetSet.{NetSet}
use Rattle.netlist.specs.Circuits.{Circuit}
use Rattle.gates.specs.Answers as gates
use Rattle.cards.specs.Working.{word_count, CardAnswered}
use Rattle.ledger.specs.Filings.{text, IsForm}
use Rattle.ledger.proofs.Forms.{text_form, form_card}
use Rattle.shelf.proofs.Filing.{counted}
use Rattle.job.specs.Answers.{Carded, Refused, words}
use Rattle.job.specs.Jobs.{Opened}
use Rattle.job.proofs.Opening.{field_laws}

module _ (job : List ℕ) (p k : ℕ) (c : Circuit) (opened : Opened job p k c.words c) (count : ℕ) (table : List (Term NetSet)) (formed : gates.Answered c 512 (Ok count) table) where
  abbrev m : FieldData
  m = shift_data k p

  abbrev us : List (Term NetSet)
  us = formed.0

  -- the terms in the first rows of the table
  front : take count table ≡ us
  front = ap (take count) formed.3 ∙ take_at us _ count (sym formed.2)

  form : IsForm m c.words (text c) us
  form = text_form m (field_laws opened.field) c.words opened.accepted.formed.range.few_words opened.netlist c us opened.accepted formed.1.form

  module _ (n : ℕ) (e : n ≡ c.words) (rows : List (Term (List ℕ))) where
    sized : word_count n ≡ c.words
    sized = let r = opened.accepted.formed.range in ap word_count e ∙ counted c.words r.some_word r.few_words

    pub made : (t : ℕ) → CardAnswered m (word_count n) 512 512 (take count table) rows (Ok t) → Carded job p k n (take t rows)
    made t a =
        let b = subst₂ (λ (i : ℕ) (xs : List (Term NetSet)). CardAnswered m i 512 512 xs rows (Ok t)) sized front a in
        subst (λ (i : ℕ). Carded job p k i (take t rows)) (sym e) (record {
          circuit = c;
          opened = opened;
          card = form_card m c.words (text c) us (take t rows) form (b.made form.bit_form.terms);
          bits = us;
          found = formed.1;
          duals = b.dual;
          right = b.duals;
          worked = b.worked.0;
        })

    pub stopped : (f : Fault) → CardAnswered m (word_count n) 512 512 (take count table) rows (Err f) → Refused job f
    stopped f a =
        let b = subst₂ (λ (i : ℕ) (xs : List (Term NetSet)). CardAnswered m i 512 512 xs rows (Err f)) sized front a in
        subst (Refused job) (sym b.worked.2) (words p k c.words c opened us formed.1 b.dual b.duals b.worked.0 b.worked.1)
