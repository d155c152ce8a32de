use Rattle.lines.specs.declared.Head.TheVariants.{Words}
use Rattle.lines.proofs.cut_sizes.Goals as goal

pub returns-in_err-head : goal.returns-in_err-head
returns-in_err-head c = rw c.from_residual.ensures (c.in_err-head.ensures Words)
