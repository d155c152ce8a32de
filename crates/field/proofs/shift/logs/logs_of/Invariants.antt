use Rattle.std.proofs.Common.{◌≡◌, ℕ, ◌<◌, drop, length, get_or}
use Rattle.std.specs.Iterator.Adapters.{zip_first, zip_second}
use Rattle.std.specs.Slice.Iter.{iter_rest}
use Rattle.field.proofs.shift.logs.logs_of.Given as goal

abbrev pub invariant-loop-i : goal.invariant-loop-i
invariant-loop-i l =
    let places = zip_first l.i-iterator in
    (places.end ≡ l.order) × (iter_rest (zip_second l.i-iterator) ≡ drop places.start l.powers) × (length l.logs ≡ 256) × ((a : ℕ) → get_or l.logs a 0 < 256)
