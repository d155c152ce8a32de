-- One call of a list, and going down a list, by the ledger. Assumes nothing.
use Rattle.std.specs.Prelude.{ℕ, List, Option}
use Rattle.algebra.specs.Field.{FieldData}
use Rattle.fault.specs.declared.Fault.{Fault}
use Rattle.ledger.specs.Laws.{Holds}
use Rattle.ledger.specs.Ledgers.{Ledger, After, Goes}
use Rattle.ledger.specs.Rules.{Call}
use Rattle.shelf.specs.Held.{held_at}
use Rattle.shelf.specs.declared.store.Drawer.{Drawer}

-- a call with refusal f, by every ledger that holds of the drawers before it
abbrev pub Steps : FieldData → ℕ → Call → List Drawer → List Drawer → Option Fault → Type 0
Steps m n c before after f = (L : Ledger) → Holds m n L (held_at before) → (L' : Ledger) × After m n L c f L' × Holds m n L' (held_at after)

-- a list of calls of which o is the first that is refused
abbrev pub Runs : FieldData → ℕ → List Call → List Drawer → List Drawer → Option (ℕ × Fault) → Type 0
Runs m n cs before after o = (L : Ledger) → Holds m n L (held_at before) → (L' : Ledger) × Goes m n L 0 cs o L' × Holds m n L' (held_at after)
