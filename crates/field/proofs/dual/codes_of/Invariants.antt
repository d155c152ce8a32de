use Rattle.std.proofs.Common.{◌≡◌, ℕ, ◌<◌, length, get_or}
use Rattle.algebra.specs.Field.{size}
use Rattle.field.specs.Signatures.{signature}
use Rattle.field.proofs.dual.codes_of.Given as goal

abbrev pub invariant-loop-d : goal.invariant-loop-d
invariant-loop-d g l =
    let m = g.F.Field.model l.f in
    (length l.codes ≡ 256) × ((s : ℕ) → get_or l.codes s 0 < size m)
    × ((d : ℕ) → d < l.d → signature m (get_or l.codes (signature m d) 0) ≡ signature m d)
