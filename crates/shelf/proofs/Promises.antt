-- What a call does is all that it has to show. Assumes nothing.
use Rattle.std.proofs.Common.{ℕ, ◌≤◌, List}
use Rattle.algebra.specs.Field.{FieldData, FieldLaws}
use Rattle.ledger.specs.Answers.{Answer}
use Rattle.ledger.specs.Drawers.{Does}
use Rattle.ledger.specs.Rules.{Call}
use Rattle.ledger.proofs.Turns.{turns}
use Rattle.shelf.specs.declared.store.Drawer.{Drawer}
use Rattle.shelf.specs.Held.{held_at}
use Rattle.shelf.specs.Promises.{Promise}

pub promise : {m : FieldData} {n : ℕ} {c : Call} {before after : List Drawer} {a : Answer c} → FieldLaws m → n ≤ 3 → Does m n (held_at before) (held_at after) c a → Promise m n c before after a
promise l few x = record { does = x; turn = turns _ l _ few _ _ _ _ x }
