use Rattle.bounded.specs.Items.{items}
use Rattle.lines.proofs.Tails.{Sofar}
use Rattle.lines.proofs.cut_tail.Given as goal

abbrev pub invariant-loop : goal.invariant-loop
invariant-loop l = Sofar l.s l.count l.counter (items l.numbers) l.left
