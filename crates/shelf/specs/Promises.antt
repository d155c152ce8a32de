-- What each call on a shelf promises. Assumes nothing.
use Rattle.std.specs.Prelude.{ℕ, List}
use Rattle.algebra.specs.Field.{FieldData}
use Rattle.ledger.specs.Answers.{Answer}
use Rattle.ledger.specs.Drawers.{Does}
use Rattle.ledger.specs.Laws.{Turn}
use Rattle.ledger.specs.Rules.{Call}
use Rattle.shelf.specs.declared.store.Drawer.{Drawer}
use Rattle.shelf.specs.Held.{held_at}

-- For n words over the field m: what the call does by what the drawers held before and hold after, whatever that is;
-- and its answer by every ledger that holds of the drawers.
pub record Promise (m : FieldData) (n : ℕ) (c : Call) (before after : List Drawer) (answer : Answer c) : Type 0 where
  pub does : Does m n (held_at before) (held_at after) c answer
  pub turn : Turn m n c (held_at before) (held_at after) answer
