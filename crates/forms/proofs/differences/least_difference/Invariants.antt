use Rattle.std.proofs.Common.{◌+◌, length}
use Rattle.forms.proofs.Walk.{Walked}
use Rattle.forms.proofs.differences.least_difference.Given as goal

abbrev pub invariant-loop-set : goal.invariant-loop-set
invariant-loop-set l = Walked l.left l.right l.ls l.rs l.best

abbrev pub decreases-loop-set : goal.decreases-loop-set
decreases-loop-set l = length l.ls + length l.rs
