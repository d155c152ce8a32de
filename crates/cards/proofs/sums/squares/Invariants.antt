use Rattle.std.proofs.Common.{◌≡◌, ℕ, ◌^◌, ◌<◌, slice_index}
use Rattle.algebra.specs.Field.{size}
use Rattle.algebra.specs.Codes.{power}
use Rattle.cards.proofs.sums.squares.Given as goal

abbrev pub invariant-loop-square : goal.invariant-loop-square
invariant-loop-square g l =
    let m = g.F.Field.model l.field in
    l.x < size m → (l.y ≡ power m l.x (2 ^ l.square-index)) × ((i : ℕ) → i < l.square-index → slice_index l.square-items i ≡ power m l.x (2 ^ i))
