use Rattle.terms.proofs.Adding.{blanked, empty_table}
use Rattle.terms.proofs.table.TermTable.reset.Goals as goal

pub returns-clause-zero : goal.returns-clause-zero
returns-clause-zero g c = blanked _ c.args.self.now.rows.now _ _ c.requires c.clear_rows.ensures

pub returns-clause-table : goal.returns-clause-table
returns-clause-table g c = empty_table _ _ _ (blanked _ c.args.self.now.rows.now _ _ c.requires c.clear_rows.ensures)
