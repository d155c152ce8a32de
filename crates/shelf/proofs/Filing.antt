-- What filing does, from what its steps answer. Assumes nothing.
use Rattle.std.proofs.Common.{◌≡◌, ℕ, ◌≤◌, min, true, List, length, take, Some, Ok, sym, ap, ◌∙◌, subst, arith, length-take-le}
use Rattle.std.proofs.lemmas.List.{take_at}
use Rattle.algebra.specs.Field.{FieldData}
use Rattle.fault.specs.declared.Fault.{Fault}
use Rattle.fault.specs.declared.Fault.TheVariants.{BadCardRow}
use Rattle.terms.specs.Nets.{net_model}
use Rattle.terms.specs.Terms.{padded}
use Rattle.terms.specs.declared.Term.{Term}
use Rattle.terms.specs.declared.nets.NetSet.{NetSet}
use Rattle.netlist.specs.Circuits.{Circuit}
use Rattle.netlist.specs.Refusals as reader
use Rattle.gates.specs.Answers as gates
use Rattle.cards.specs.BitsWorking.{BitsAnswered}
use Rattle.cards.specs.Law.{Polynomial}
use Rattle.cards.specs.Working.{word_count}
use Rattle.ledger.specs.Drawers.{Held, Itself, Puts, TextFiled, RowsFiled}
use Rattle.ledger.specs.Rules.{card_filing, Free, BadRow, Refused, rows_bad}
use Rattle.shelf.specs.Formed.{formed}
use Rattle.shelf.proofs.Formed.{form_formed}

-- the terms in the first rows of a table
front : (cap : ℕ) (rows us : List (Term NetSet)) (n : ℕ) → rows ≡ padded net_model cap us → n ≡ length us → take n rows ≡ us
front cap rows us n e h = ap (take n) e ∙ take_at us _ n (sym h)

-- the bit form of a netlist, where it stands in the work table
module _ (c : Circuit) (w j : ℕ) (work : List (Term NetSet)) (a : gates.Answered c w (Ok j) work) where
  is_form : take j work ≡ a.0
  is_form = front w work a.0 j a.3 a.2

  pub form_sorted : formed (take j work) ≡ true
  form_sorted = ap formed is_form ∙ form_formed a.0 (record { own = a.1.form.own; falling = a.1.form.falling; nonzero = a.1.form.nonzero })

  pub text_filed : (m : FieldData) (n k : ℕ) (at at' : Held) (d : ℕ) (bytes : List ℕ) → k ≡ m.width → Free at d → reader.Accepted n k bytes c → Puts at d (Some (take j work)) at'
      → TextFiled m n at at' d bytes w j
  text_filed m n k at at' d bytes e f r p = record {
    free = f;
    circuit = c;
    accepted = subst (λ (i : ℕ). reader.Accepted n i bytes c) e r;
    form = a.0;
    found = a.1;
    count = a.2;
    held = subst (λ (us : List (Term NetSet)). Puts at d (Some us) at') is_form p;
  }

-- one to three words count as they are
pub counted : (n : ℕ) → 1 ≤ n → n ≤ 3 → word_count n ≡ n
counted n l h = omega arith

-- the bit form of card rows, where it stands in the result table
module _ (m : FieldData) (n p s r : ℕ) (ts : List (Term (List ℕ))) (lawful : Polynomial m n ts) (j : ℕ) (result : List (Term NetSet)) (a : BitsAnswered m n (min p s) r ts result (Ok j)) where
  long : length (take j result) ≡ j
  long = length-take-le j result a.worked.2.within

  pub rows_sorted : formed (take j result) ≡ true
  rows_sorted = let b = (a.made lawful).bit_form in form_formed (take j result) (record { own = b.sets; falling = b.falling; nonzero = b.nonzero })

  pub rows_filed : (at at' : Held) (d : ℕ) → Free at d → Puts at d (Some (take j result)) at' → RowsFiled m n at at' d ts p s r j
  rows_filed at at' d f h = record {
    free = f;
    polynomial = lawful;
    form = take j result;
    worked = a.worked.0;
    few = omega (arith, long, a.worked.1);
    is_form = a.made lawful;
    count = sym long;
    held = h;
  }

-- a bad row
pub row_refused : (m : FieldData) (n : ℕ) (at : Held) (d : ℕ) (ts : List (Term (List ℕ))) (p s r : ℕ) (e : Fault) → Free at d → (i : ℕ) × (e ≡ BadCardRow i) × BadRow m n ts i
    → Refused m n at Itself (card_filing d ts p s r) e
row_refused m n at d ts p s r e f b = subst (Refused m n at Itself (card_filing d ts p s r)) (sym b.1) (rows_bad d ts p s r f b.0 b.2)
