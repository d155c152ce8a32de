use Rattle.std.proofs.Common.{rules}
use Rattle.job.specs.Jobs.{no_polynomial}
use Rattle.job.proofs.Opening.{fielded}
use Rattle.job.proofs.open.field_of.Goals as goal

pub returns-in_err-polynomial_of : goal.returns-in_err-polynomial_of
returns-in_err-polynomial_of c = search (rules, no_polynomial)

pub returns : goal.returns
returns c = fielded _ _ _ c.new.result c.in_ok-polynomial_of.ensures c.new.ensures
