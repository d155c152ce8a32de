use Rattle.std.proofs.Common.{rules}
use Rattle.job.specs.Jobs.{bad}
use Rattle.job.proofs.Opening.{fieldless}
use Rattle.job.proofs.open.prepare.Goals as goal

pub returns-in_err-parts : goal.returns-in_err-parts
returns-in_err-parts c = search (rules, bad)

pub returns-in_err-field : goal.returns-in_err-field
returns-in_err-field c = search (rules, fieldless)
