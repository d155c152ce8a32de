use Rattle.std.proofs.Common.{◌≡◌, take}
use Rattle.audit.specs.Entries.{calls_of}
use Rattle.audit.specs.LentTables.{at_hand, SameTables}
use Rattle.audit.specs.Runs.{Runs}
use Rattle.audit.proofs.runs.run_all.Given as goal

abbrev pub invariant-loop-i : goal.invariant-loop-i
invariant-loop-i g l = record {
  runs : Runs (g.F.Field.model l.initial.shelf.words.field) l.initial.shelf.words.count (calls_of (at_hand l.initial.tables) (take l.i l.entries)) l.initial.shelf.drawers l.shelf.drawers l.found;
  words : l.shelf.words ≡ l.initial.shelf.words;
  same : SameTables l.initial.tables l.tables;
}
