-- What a call has to answer, by the ledger and the filed outputs. Assumes nothing.
use Rattle.std.specs.Prelude.{◌≡◌, ℕ, ◌*◌, ◌<◌, ◌≤◌, min, ◌⊎◌, List, [], ◌∷◌, length, replicate, Some, None, Ok, Err, Option, Result, ◌≢◌}
use Rattle.algebra.specs.Field.{FieldData}
use Rattle.fault.specs.declared.Fault.{Fault}
use Rattle.terms.specs.Counts.{weight, rank}
use Rattle.terms.specs.Sets.{holds}
use Rattle.terms.specs.Terms.{blank, padded}
use Rattle.terms.specs.Values.{bit_at}
use Rattle.terms.specs.declared.Term.{Term}
use Rattle.terms.specs.declared.nets.NetSet.{NetSet}
use Rattle.forms.specs.Differences.{LeastDifference}
use Rattle.netlist.specs.Circuits.{Circuit}
use Rattle.netlist.specs.Refusals as reader
use Rattle.convert.specs.Convert.{finished}
use Rattle.cards.specs.Law.{IsInput}
use Rattle.cards.specs.Sums.{card_kind}
use Rattle.cards.specs.Working.{card_working}
use Rattle.ledger.specs.declared.Compared.{Compared}
use Rattle.ledger.specs.declared.Compared.TheVariants.{Same, Differ}
use Rattle.ledger.specs.Filings.{Filing, text, rows, output, Agree, IsForm, IsCard, CountOf}
use Rattle.ledger.specs.Rules.{Call, filing, card_filing, withdrawing, comparing, valuing, carding, Duals}
use Rattle.ledger.specs.Ledgers.{Ledger, Due}

-- the three words that compare answers
abbrev pub words_of : ℕ × ℕ × ℕ × ℕ × ℕ → List ℕ
words_of x = x.0 ∷ (x.1 ∷ (x.2 ∷ []))

-- the input xs, whose one bits are a set of nets s, is the one that two bit forms pick: of the sets whose codes differ in
-- the two, 0 standing for an absent one, s has the fewest nets, and of those with as many it is the smallest
abbrev pub Picked : FieldData → ℕ → List (Term NetSet) → List (Term NetSet) → List ℕ → Type 0
Picked m n us vs xs = (s : NetSet) × LeastDifference us vs s × ((g : ℕ) → g < n * m.width → bit_at m.width xs g ≡ holds s g)

-- Compare's answer for filings that do not agree: an input where the outputs differ, and both outputs there. Of all inputs where
-- they differ it has the fewest one bits, and of those with as many it is the smallest.
pub record Apart (m : FieldData) (n : ℕ) (f g : Filing) (x : ℕ × ℕ × ℕ × ℕ × ℕ) : Type 0 where
  pub input : IsInput m n (words_of x)
  pub left : x.3 ≡ output m n f (words_of x)
  pub right : x.4 ≡ output m n g (words_of x)
  pub differ : x.3 ≡ x.4 → ⊥
  pub least : (ys : List ℕ) → IsInput m n ys → (output m n f ys ≢ output m n g ys)
      → (weight (words_of x) < weight ys) ⊎ ((weight (words_of x) ≡ weight ys) × (rank m.width (words_of x) ≤ rank m.width ys))
  -- and it is the input that the two bit forms pick
  pub picked : (us vs : List (Term NetSet)) → IsForm m n f us → IsForm m n g vs → Picked m n us vs (words_of x)

-- what compare answers
abbrev pub Tells : FieldData → ℕ → Filing → Filing → Compared → Type 0
Tells m n f g Same = Agree m n f g
Tells m n f g (Differ x) = Apart m n f g x

-- The card table after card is accepted with j: it holds the card, which is what the working of the bit form with the field's duals
-- ends in, and then zero rows. The product tables have min p s rows, the card table c.
pub record CardTable (m : FieldData) (n : ℕ) (f : Filing) (p s c j : ℕ) (table : List (Term (List ℕ))) : Type 0 where
  pub terms : List (Term (List ℕ))
  pub card : IsCard m n f terms
  pub form : List (Term NetSet)
  pub is_form : IsForm m n f form
  pub dual : ℕ → ℕ
  pub duals : Duals m dual
  pub worked : card_working m n dual (min p s) c form ≡ finished terms
  pub count : j ≡ length terms
  pub within : length terms ≤ c
  pub table_is : table ≡ padded (card_kind m n) c terms

-- what a call answers; card answers its table too
abbrev pub Answer : Call → Type 0
Answer (filing d bytes w) = Result ℕ Fault
Answer (card_filing d ts p s r) = Result ℕ Fault
Answer (withdrawing d) = Result ℕ Fault
Answer (comparing d b) = Result Compared Fault
Answer (valuing d xs) = Result ℕ Fault
Answer (carding d p s c) = Result ℕ Fault × List (Term (List ℕ))

-- the refusal in an answer
abbrev pub fault_in : {A : Type 0} → Result A Fault → Option Fault
fault_in (Ok v) = None
fault_in (Err e) = Some e

-- the refusal of a call, by its answer
abbrev pub fault_of : (c : Call) → Answer c → Option Fault
fault_of (filing d bytes w) r = fault_in r
fault_of (card_filing d ts p s t) r = fault_in r
fault_of (withdrawing d) r = fault_in r
fault_of (comparing d b) r = fault_in r
fault_of (valuing d xs) r = fault_in r
fault_of (carding d p s c) a = fault_in a.0

module _ (m : FieldData) (n : ℕ) where
  -- A call is refused exactly with the refusal that is due; where none is due, it is accepted, and P holds of what it answers.
  abbrev pub Outcome : {A : Type 0} → Ledger → Call → (A → Type 0) → Result A Fault → Type 0
  Outcome L c P (Ok v) = ((e : Fault) → Due m n L c e → ⊥) × P v
  Outcome L c P (Err e) = Due m n L c e × ((e' : Fault) → Due m n L c e' → e' ≡ e)

  -- a refused card leaves zero rows only
  abbrev pub Blank : ℕ → Result ℕ Fault → List (Term (List ℕ)) → Type 0
  Blank c (Ok j) table = Unit {0}
  Blank c (Err e) table = table ≡ replicate c (blank (card_kind m n))

  -- the right answer where the ledger is L
  abbrev pub Right : Ledger → (c : Call) → Answer c → Type 0
  Right L (filing d bytes w) r = Outcome L (filing d bytes w) (λ j. (c : Circuit) × reader.Accepted n m.width bytes c × CountOf m n (text c) j) r
  Right L (card_filing d ts p s t) r = Outcome L (card_filing d ts p s t) (CountOf m n (rows ts)) r
  Right L (withdrawing d) r = Outcome L (withdrawing d) (λ j. (f : Filing) × (L d ≡ Some f) × CountOf m n f j) r
  Right L (comparing d b) r = Outcome L (comparing d b) (λ v. (f g : Filing) → L d ≡ Some f → L b ≡ Some g → Tells m n f g v) r
  Right L (valuing d xs) r = Outcome L (valuing d xs) (λ v. (f : Filing) → L d ≡ Some f → v ≡ output m n f xs) r
  Right L (carding d p s c) a = Outcome L (carding d p s c) (λ j. (f : Filing) → L d ≡ Some f → CardTable m n f p s c j a.1) a.0 × Blank c a.0 a.1
