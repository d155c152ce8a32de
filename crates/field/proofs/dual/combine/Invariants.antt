use Rattle.std.proofs.Common.{◌≡◌, ◌≤◌, drop, cond, eqb, get_or}
use Rattle.std.specs.Iterator.Adapters.{zip_first, zip_second}
use Rattle.std.specs.Slice.Iter.{iter_rest}
use Rattle.algebra.specs.Codes.{bit_of, code_sum}
use Rattle.field.proofs.dual.combine.Given as goal

abbrev pub invariant-loop-i : goal.invariant-loop-i
invariant-loop-i g l =
    let m = g.F.Field.model l.f in
    let codes = zip_first l.i-iterator in
    (codes.end ≡ m.width) × (codes.start ≤ m.width) × (iter_rest (zip_second l.i-iterator) ≡ drop codes.start l.columns)
    × (l.sum ≡ code_sum m codes.start (λ i. cond (eqb (bit_of l.x i) 1) (get_or l.columns i 0) 0))
