use Rattle.std.proofs.Common.{rules}
use Rattle.job.specs.Jobs.{unnamed}
use Rattle.job.proofs.Opening.{given_default}
use Rattle.job.proofs.open.default_of.Goals as goal

pub returns-in_err-k : goal.returns-in_err-k
returns-in_err-k c = search (rules, unnamed)

pub returns : goal.returns
returns c = given_default c.default_for.result c.in_ok-k.ensures.1 c.default_for.ensures
