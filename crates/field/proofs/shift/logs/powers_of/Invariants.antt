use Rattle.std.proofs.Common.{◌≡◌, ℕ, ◌<◌, length, get_or}
use Rattle.field.specs.Logged.{raised, code}
use Rattle.field.proofs.shift.logs.powers_of.Given as goal

abbrev pub invariant-loop-power : goal.invariant-loop-power
invariant-loop-power l =
    let at = raised l.m.k l.m.p (code l.base) in
    (length l.power-items ≡ 512) × (l.y ≡ at l.power-index) × ((j : ℕ) → j < l.power-index → get_or l.power-items j 0 ≡ at j)
