use Rattle.std.proofs.Common.{◌∙◌}
use Rattle.audit.specs.LentTables.{for_cards}
use Rattle.audit.proofs.Law.{audited, relent, calls_named}
use Rattle.audit.proofs.runs.audit_in.Goals as goal

pub returns-clause-faithful : goal.returns-clause-faithful
returns-clause-faithful g c =
    let made = c.new-shelf.ensures in
    let run = c.run_all-refused in
    let same = run.ensures.same in
    let l = c.card-left.auto in
    audited g.F.Field.model c.args.field _ _ _ made.field made.words run.ensures.words (g.met.F.Field.holds _) _ _ _ made.empty _ _ _ (for_cards c.args.tables.now) _ _ _
    run.ensures.runs c.compare-compared.ensures c.value-value.ensures
    (relent _ _ _ _ _ _ same.first.rows same.second.rows same.left.rows c.card-left.ensures.promise)
    (relent _ _ _ _ _ _ (l.first ∙ same.first.rows) (l.second ∙ same.second.rows) same.right.rows c.card-right.ensures.promise)

pub returns-clause-named : goal.returns-clause-named
returns-clause-named g c = calls_named _ c.args.entries.now
