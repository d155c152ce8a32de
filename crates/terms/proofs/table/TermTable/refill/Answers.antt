use Rattle.std.proofs.Common.{refl, ◌∙◌, arith}
use Rattle.terms.proofs.Adding.{refilled}
use Rattle.terms.proofs.table.TermTable.refill.Goals as goal

pub returns-clause-copied : goal.returns-clause-copied
returns-clause-copied g c =
    refilled (g.K.Kind.model c.args.kind.now) c.args.self.now c.args.other.now _ c.copy_from_slice.new.self c.clear_rows.new.rows c.max.result c.requires.table c.requires.other (omega arith)
    (c.copy_from_slice.ensures.after ∙ c.terms.ensures) c.max.ensures c.clear_rows.ensures refl
