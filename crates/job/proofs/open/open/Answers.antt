use Rattle.std.proofs.Common.{rules}
use Rattle.job.proofs.Opening.{unread}
use Rattle.job.proofs.open.open.Goals as goal

pub returns-in_err-netlist : goal.returns-in_err-netlist
returns-in_err-netlist c = search (rules, unread)
