use Rattle.std.proofs.Common.{Some, codes, arith}
use Rattle.std.proofs.lemmas.Bool.Decides.{Decides-eqb}
use Rattle.std.proofs.lemmas.Result.{err_from_is_err_and}
use Rattle.std.proofs.lemmas.Slice.Eq.{strip_prefix_is}
use Rattle.netlist.proofs.Steps.{refused}
use Rattle.job.specs.Jobs.{long, form}
use Rattle.job.proofs.parts.take_apart.Goals as goal

pub returns-then-job-gt-LIMIT : goal.returns-then-job-gt-LIMIT
returns-then-job-gt-LIMIT c = long (omega arith)

pub returns-in_err-numbers : goal.returns-in_err-numbers
returns-in_err-numbers c =
    let p = err_from_is_err_and c.from_residual.result c.from_residual.ensures.1 in
    let r = refused _ c.cut_tail.result c.cut_tail.ensures c.in_err-numbers.ensures.value in
    let front = strip_prefix_is Decides-eqb c.args.job.now (codes "field") (Some c.in-Some.tail) c.in-Some.ensures.cases in
    rw (p.1, p.2, r.1) (form _ (omega arith) front r.0)
