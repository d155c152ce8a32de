-- What every call promises at once: by the drawers and by the ledger; and that each list of calls has one ledger. Assumes nothing.
use Rattle.std.specs.Prelude.{◌≡◌, ℕ, List, Some, None, Option}
use Rattle.algebra.specs.Field.{FieldData, FieldLaws}
use Rattle.fault.specs.declared.Fault.{Fault}
use Rattle.terms.specs.declared.Term.{Term}
use Rattle.terms.specs.declared.nets.NetSet.{NetSet}
use Rattle.ledger.specs.Filings.{Filing, Lawful, IsForm}
use Rattle.ledger.specs.Rules.{Call}
use Rattle.ledger.specs.Ledgers.{Ledger, After, Led}
use Rattle.ledger.specs.Answers.{Answer, Right, fault_of}
use Rattle.ledger.specs.Drawers.{Held}

module _ (m : FieldData) (n : ℕ) where
  -- a drawer holds the bit form of its filing, which is a lawful one, and nothing where it has none
  abbrev pub Stands : Option Filing → Option (List (Term NetSet)) → Type 0
  Stands None None = Unit {0}
  Stands None (Some us) = ⊥
  Stands (Some f) None = ⊥
  Stands (Some f) (Some us) = Lawful m n f × IsForm m n f us

  -- so does each drawer
  abbrev pub Holds : Ledger → Held → Type 0
  Holds L at = (d : ℕ) → Stands (L d) (at d)

  -- One call, by the ledger: for every ledger that holds of the drawers before it, the answer is right, and the ledger with the
  -- call entered holds of the drawers after it.
  abbrev pub Turn : (c : Call) → Held → Held → Answer c → Type 0
  Turn c at at' a = (L : Ledger) → Holds L at → Right m n L c a × ((L' : Ledger) × After m n L c (fault_of c a) L' × Holds L' at')

-- each list of calls leads to at most one ledger, and has at most one first refusal
abbrev pub OneLedger : Type 0
OneLedger = (m : FieldData) → FieldLaws m → (n : ℕ) (cs : List Call) (o o' : Option (ℕ × Fault)) (L L' : Ledger) → Led m n cs o L → Led m n cs o' L' → (o ≡ o') × (L ≡ L')
