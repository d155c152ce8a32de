-- What the program writes for a job. Assumes nothing.
use Rattle.std.specs.Prelude.{ℕ, List, Ok, Err}
use Rattle.fault.specs.Faults.{refusal_line}
use Rattle.fault.specs.declared.Fault.{Fault}
use Rattle.terms.specs.declared.Term.{Term}
use Rattle.job.specs.declared.answer.Outcome.{Outcome}
use Rattle.job.specs.Answers.{Carded}
use Rattle.job.specs.Answers as answers
use Rattle.job.specs.Cards.{shown_card}
use Rattle.job.specs.Printing.{card_text}

-- the text for a job: that of its card, or the line of its refusal
pub data Printed (job : List ℕ) : List ℕ → Type 0 where
  card : (p k n : ℕ) (ts : List (Term (List ℕ))) → Carded job p k n ts → Printed job (card_text n k p ts)
  refusal : (f : Fault) → answers.Refused job f → Printed job (refusal_line f)

-- what is shown of an outcome
abbrev pub shown_outcome : Outcome → List ℕ
shown_outcome o = elim o.0 [ Ok c ↦ shown_card c | Err f ↦ refusal_line f ]
