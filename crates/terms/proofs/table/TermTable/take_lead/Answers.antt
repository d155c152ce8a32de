use Rattle.std.proofs.Common.{refl}
use Rattle.terms.proofs.Adding.{taken}
use Rattle.terms.proofs.table.TermTable.take_lead.Goals as goal

pub returns-clause-off : goal.returns-clause-off
returns-clause-off g c =
    let e = c.in_ok-lead.ensures in
    taken (g.K.Kind.model c.args.kind.now) c.args.self.now _ c.in_ok-lead.lead c.zero_row.result e.0 c.requires e.1 c.zero_row.ensures refl c.drop_first.ensures
