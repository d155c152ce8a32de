use Rattle.std.proofs.Common.{sym, ◌∙◌}
use Rattle.netlist.specs.Netlists.{circuit}
use Rattle.gates.proofs.Found.{answered}
use Rattle.gates.proofs.work.find_form.Goals as goal

pub returns-else-is_err-clause-answer : goal.returns-else-is_err-clause-answer
returns-else-is_err-clause-answer c =
    let s = c.count_terms-count.ensures in
    answered (circuit c.args.net.now) c.args.table.now c.count_terms-count.new.table c.count_terms-count.result (sym c.is_err.ensures.value ∙ c.if-is_err.false) s.kept s.reached
