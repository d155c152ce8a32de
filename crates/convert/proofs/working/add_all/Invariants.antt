use Rattle.std.proofs.Common.{drop}
use Rattle.terms.specs.Lent.{live}
use Rattle.convert.proofs.Underway.{Underway}
use Rattle.convert.proofs.working.add_all.Given as goal

abbrev pub invariant-loop-t : goal.invariant-loop-t
invariant-loop-t g l = Underway (g.K.Kind.model l.kind) l.initial.out l.out (drop l.t-index l.t-items) (live l.first)
