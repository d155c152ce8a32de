use Rattle.std.proofs.Common.{take}
use Rattle.cards.specs.Law.{Polynomial}
use Rattle.shelf.proofs.Rows.{Before}
use Rattle.shelf.proofs.store.Words.check_rows.Given as goal

abbrev pub invariant-loop-i : goal.invariant-loop-i
invariant-loop-i g l = record { checked : Polynomial (g.F.Field.model l.self.field) l.self.count (take l.i l.rows); row_before : Before l.rows l.i l.before }
