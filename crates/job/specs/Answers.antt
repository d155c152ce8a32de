-- What is answered to a job: its card, or why there is none. Assumes nothing.
use Rattle.std.specs.Prelude.{◌≡◌, ℕ, List, take, Ok, Err, Result}
use Rattle.algebra.specs.Field.{FieldData}
use Rattle.algebra.specs.Shift.{shift_data}
use Rattle.fault.specs.declared.Fault.{Fault}
use Rattle.terms.specs.declared.Term.{Term}
use Rattle.terms.specs.declared.nets.NetSet.{NetSet}
use Rattle.netlist.specs.Circuits.{Circuit}
use Rattle.netlist.specs.Meaning.{output_at}
use Rattle.gates.specs.Answers.{Found}
use Rattle.gates.specs.Answers as gates
use Rattle.convert.specs.Convert.{finished, stopped}
use Rattle.convert.specs.declared.FullTable.{FullTable}
use Rattle.cards.specs.Law.{IsInput, card_value}
use Rattle.cards.specs.Working.{card_working, card_fault}
use Rattle.ledger.specs.Filings.{text, IsCard}
use Rattle.ledger.specs.Rules as rules
use Rattle.job.specs.declared.card.Card.{Card}
use Rattle.job.specs.Cards.{terms_of}
use Rattle.job.specs.Jobs.{Opened, NotOpened}

-- δ i is the dual of bit i of the field
abbrev pub Duals : FieldData → (ℕ → ℕ) → Type 0
Duals m δ = rules.Duals m δ

-- at every input, the value of ts is the word that the gates' Boolean tables give; an input is three numbers, the circuit's n words and then 0s
abbrev pub HasOutputs : FieldData → ℕ → Circuit → List (Term (List ℕ)) → Type 0
HasOutputs m n c ts = (xs : List ℕ) → IsInput m n xs → card_value m ts xs ≡ output_at c (take n xs)

-- ts is the card of circuit c: the one polynomial in n words that has at every input the word that the gates' Boolean tables give (HasOutputs)
abbrev pub CardOfCircuit : FieldData → ℕ → Circuit → List (Term (List ℕ)) → Type 0
CardOfCircuit m n c ts = IsCard m n (text c) ts

-- ts is the card of a job, in n words of k bits over the field of p: the job is the text of a circuit, and ts is the card of that circuit;
-- the gates' working ends in its bit form, and the working from that to words ends in ts, each table having 512 rows
pub record Carded (job : List ℕ) (p k n : ℕ) (ts : List (Term (List ℕ))) : Type 0 where
  pub circuit : Circuit
  pub opened : Opened job p k n circuit
  pub card : CardOfCircuit (shift_data k p) n circuit ts
  pub bits : List (Term NetSet)
  pub found : Found circuit 512 bits
  pub duals : ℕ → ℕ
  pub right : Duals (shift_data k p) duals
  pub worked : card_working (shift_data k p) n duals 512 512 bits ≡ finished ts

-- why a job has none: it cannot be opened, or a table is full on the way to bits or to words, or the bit form has too many terms
pub data Refused (job : List ℕ) : Fault → Type 0 where
  unopened : {f : Fault} → NotOpened job f → Refused job f
  bits : {f : Fault} (p k n : ℕ) (c : Circuit) → Opened job p k n c → gates.Refused c 512 f → Refused job f
  words : (p k n : ℕ) (c : Circuit) → Opened job p k n c → (us : List (Term NetSet)) → Found c 512 us → (δ : ℕ → ℕ) → Duals (shift_data k p) δ
      → (t : FullTable) → card_working (shift_data k p) n δ 512 512 us ≡ stopped t → Refused job (card_fault t)

-- the answer: the card, or the refusal
abbrev pub Answered : List ℕ → Result Card Fault → Type 0
Answered job (Ok card) = Carded job card.polynomial card.width card.words (terms_of card)
Answered job (Err f) = Refused job f
