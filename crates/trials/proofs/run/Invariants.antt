use Rattle.std.proofs.Common.{length}
use Rattle.trials.proofs.run.Given as goal

abbrev pub decreases-loop-name : goal.decreases-loop-name
decreases-loop-name l = length l.left
