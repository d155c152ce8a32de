use Rattle.std.proofs.Common.{◌≡◌, ◌-◌, ℕ, ◌≤◌, [], ◌∷◌, slice_index}
use Rattle.terms.specs.Sets.{holds}
use Rattle.cards.specs.Shapes.{counted}
use Rattle.cards.proofs.shapes.bounds.Words.shape.Given as goal

abbrev pub invariant-loop-p : goal.invariant-loop-p
invariant-loop-p l =
    (counted l.self.width (holds l.s) l.p (l.places - l.p) l.counts ≡ counted l.self.width (holds l.s) 0 l.places (0 ∷ (0 ∷ (0 ∷ [])))) × ((w : ℕ) → slice_index l.counts w ≤ l.p)
