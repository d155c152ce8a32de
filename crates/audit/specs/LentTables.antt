-- The tables that are lent. Assumes nothing.
use Rattle.std.specs.Prelude.{◌≡◌, List, length}
use Rattle.std.specs.Borrow.{MutBor}
use Rattle.audit.specs.declared.tables.LentTables.{LentTables}
use Rattle.audit.specs.Entries.{Tables, tables}
use Rattle.audit.specs.Faithful.{Lent, lent}

-- how many rows of them the calls of a list may have
abbrev pub at_hand : LentTables → Tables
at_hand t = tables (length t.work.now) (length t.bits_first.now) (length t.bits_second.now) (length t.first.now) (length t.second.now) (length t.left.now)

-- how many the last two cards have
abbrev pub for_cards : LentTables → Lent
for_cards t = lent (length t.first.now) (length t.second.now) (length t.left.now) (length t.right.now)

-- a table that stays the one that was lent, with all its rows
pub record SameTable {T : Type 0} (before after : MutBor (List T)) : Type 0 where
  pub name : after.ghost_name ≡ before.ghost_name
  pub rows : length after.now ≡ length before.now

-- each does
pub record SameTables (before after : LentTables) : Type 0 where
  pub work : SameTable before.work after.work
  pub bits_first : SameTable before.bits_first after.bits_first
  pub bits_second : SameTable before.bits_second after.bits_second
  pub first : SameTable before.first after.first
  pub second : SameTable before.second after.second
  pub left : SameTable before.left after.left
  pub right : SameTable before.right after.right
