use Rattle.std.proofs.Common.{rules}
use Rattle.job.specs.Jobs.{named}
use Rattle.job.proofs.Opening.{any_sizes}
use Rattle.job.proofs.open.polynomial_of.Goals as goal

pub returns-in-Some : goal.returns-in-Some
returns-in-Some c = search (rules, named)

pub returns-in_err-read : goal.returns-in_err-read
returns-in_err-read c = search (rules, any_sizes)
