use Rattle.std.proofs.Common.{◌≡◌, ℕ, ◌<◌, ◌≤◌}
use Rattle.algebra.specs.Poly.{pmul}
use Rattle.field.proofs.shift.Shift.new.Given as goal

abbrev pub invariant-loop-d : goal.invariant-loop-d
invariant-loop-d l = (a q : ℕ) → 2 ≤ a → a < l.d → pmul a q ≡ l.p → ⊥
