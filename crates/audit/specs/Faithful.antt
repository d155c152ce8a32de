-- The law: what holds of any two drawers after any list of calls on a shelf just made. Assumes nothing.
use Rattle.std.specs.Prelude.{◌≡◌, ℕ, ◌↔◌, List, length, take, Some, Ok, Option}
use Rattle.algebra.specs.Field.{FieldData}
use Rattle.fault.specs.declared.Fault.{Fault}
use Rattle.terms.specs.Terms.{padded}
use Rattle.terms.specs.declared.Term.{Term}
use Rattle.cards.specs.Law.{IsInput, Polynomial}
use Rattle.cards.specs.Sums.{card_kind}
use Rattle.ledger.specs.declared.Compared.TheVariants.{Same, Differ}
use Rattle.ledger.specs.Answers.{Apart, CardTable, Right}
use Rattle.ledger.specs.Filings.{Filing, rows, output, Agree}
use Rattle.ledger.specs.Ledgers.{Ledger, Led}
use Rattle.ledger.specs.Rules.{Call, comparing, valuing, carding}
use Rattle.audit.specs.declared.findings.Findings.{Findings}

-- how many rows the last two cards are lent
pub record Lent : Type 0 where
  pub first : ℕ
  pub second : ℕ
  pub left : ℕ
  pub right : ℕ

-- so many
abbrev pub lent : ℕ → ℕ → ℕ → ℕ → Lent
lent f s l r = record { first = f; second = s; left = l; right = r }

-- The ledger after the calls cs, for n words over the field m. There is one, and o, the first refused call with its refusal, is fixed.
pub record TheLedger (m : FieldData) (n : ℕ) (cs : List Call) (o : Option (ℕ × Fault)) (L : Ledger) : Type 0 where
  pub led : Led m n cs o L
  pub only : (o' : Option (ℕ × Fault)) (L' : Ledger) → Led m n cs o' L' → (o' ≡ o) × (L' ≡ L)

-- After the calls cs on a shelf just made, for n words over the field m: what compare of drawers a and b, value of a at xs and the
-- cards of a and b, lent T rows, then answer. left and right are the card tables after it.
pub record Faithful (m : FieldData) (n : ℕ) (cs : List Call) (a b : ℕ) (xs : List ℕ) (T : Lent) (out : Findings) (left right : List (Term (List ℕ))) : Type 0 where
  -- the ledger that the calls lead to; the first refused call is answered
  pub ledger : Ledger
  pub the_ledger : TheLedger m n cs out.refused ledger
  -- each answer is right: refused exactly where, and with what, the rules read with that ledger say
  pub compare_right : Right m n ledger (comparing a b) out.compared
  pub value_right : Right m n ledger (valuing a xs) out.value
  pub left_right : Right m n ledger (carding a T.first T.second T.left) (out.left, left)
  pub right_right : Right m n ledger (carding b T.first T.second T.right) (out.right, right)
  -- two cards are equal exactly when the filed outputs agree at every input
  pub cards : (f g : Filing) → ledger a ≡ Some f → ledger b ≡ Some g → (i j : ℕ) → out.left ≡ Ok i → out.right ≡ Ok j → (take i left ≡ take j right) ↔ Agree m n f g
  -- compare says "same" exactly when the filed outputs agree at every input
  pub same : (f g : Filing) → ledger a ≡ Some f → ledger b ≡ Some g → (out.compared ≡ Ok Same) ↔ Agree m n f g
  -- otherwise it answers an input where they differ, with both outputs; every other such input has at least as many one bits
  pub differ : (f g : Filing) → ledger a ≡ Some f → ledger b ≡ Some g → (Agree m n f g → ⊥) → (x : ℕ × ℕ × ℕ × ℕ × ℕ) × (out.compared ≡ Ok (Differ x)) × Apart m n f g x
  -- value is the filed output
  pub value : (f : Filing) → ledger a ≡ Some f → IsInput m n xs → out.value ≡ Ok (output m n f xs)
  -- an accepted card stands in its table, and then zero rows: its value is the filed output at every input, and no other polynomial has that
  pub left_card : (f : Filing) → ledger a ≡ Some f → (i : ℕ) → out.left ≡ Ok i → CardTable m n f T.first T.second T.left i left
  pub right_card : (g : Filing) → ledger b ≡ Some g → (j : ℕ) → out.right ≡ Ok j → CardTable m n g T.first T.second T.right j right
  -- card rows that were filed are their own card
  pub again : (ts : List (Term (List ℕ))) → ledger a ≡ Some (rows ts) → (i : ℕ) → out.left ≡ Ok i → (i ≡ length ts) × (left ≡ padded (card_kind m n) T.left ts)
  -- the rows of a card may be filed, and then stand for the same function
  pub back : (f : Filing) → ledger a ≡ Some f → (i : ℕ) → out.left ≡ Ok i → Polynomial m n (take i left) × Agree m n (rows (take i left)) f
