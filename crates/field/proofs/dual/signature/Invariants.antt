use Rattle.std.proofs.Common.{◌≡◌, ◌^◌, cond, eqb}
use Rattle.algebra.specs.Field.{product}
use Rattle.algebra.specs.Codes.{code_sum, trace}
use Rattle.field.proofs.dual.signature.Given as goal

abbrev pub invariant-loop-j : goal.invariant-loop-j
invariant-loop-j g l =
    let m = g.F.Field.model l.f in
    l.bits ≡ code_sum m l.j (λ j. cond (eqb (trace m (product m l.d (2 ^ j))) m.one) (2 ^ j) 0)
