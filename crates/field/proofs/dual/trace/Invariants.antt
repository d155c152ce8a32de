use Rattle.std.proofs.Common.{◌≡◌, ◌%◌, ◌^◌}
use Rattle.algebra.specs.Field.{size}
use Rattle.algebra.specs.Codes.{power, code_sum}
use Rattle.field.proofs.dual.trace.Given as goal

abbrev pub invariant-loop : goal.invariant-loop
invariant-loop g l =
    let m = g.F.Field.model l.f in
    let c = l.t % size m in
    (l.x ≡ power m c (2 ^ l.counter)) × (l.sum ≡ code_sum m l.counter (λ j. power m c (2 ^ j)))
