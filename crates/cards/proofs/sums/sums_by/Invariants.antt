use Rattle.std.proofs.Common.{◌≡◌, ℕ, ◌/◌, ◌%◌, ◌<◌, ◌≤◌, length, slice_index_or}
use Rattle.terms.specs.Terms.{term}
use Rattle.terms.specs.declared.Term.{Term}
use Rattle.cards.proofs.sums.sums_by.Given as goal

abbrev pub invariant-loop-t : goal.invariant-loop-t
invariant-loop-t g l =
    (length l.sums ≡ 192)
    × ((i : ℕ) → i < l.t → (x : Term g.row.M.Denot) → goal.F-post g l.make (i / l.width) (i % l.width) (slice_index_or l.sums i x))
    × ((i : ℕ) → l.t ≤ i → i < 192 → (x : Term g.row.M.Denot) → slice_index_or l.sums i x ≡ term 0 l.fn.unit)
