use Rattle.std.proofs.Common.{◌≡◌, ◌≤◌}
use Rattle.cards.specs.Shapes.{exponents}
use Rattle.cards.proofs.shapes.bounds.Words.exponents.Given as goal

abbrev pub invariant-loop : goal.invariant-loop
invariant-loop l = (l.count ≡ exponents l.self.width l.self.order l.counter) × (l.count ≤ 256)
