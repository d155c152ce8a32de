use Rattle.std.proofs.Common.{take}
use Rattle.terms.specs.Sets.{holds}
use Rattle.terms.specs.Terms.{Monos}
use Rattle.cards.specs.Met.{met, Sums}
use Rattle.cards.specs.Shapes.{Shaped}
use Rattle.cards.proofs.shapes.fits.shapes_fit.Given as goal

abbrev pub invariant-loop-t : goal.invariant-loop-t
invariant-loop-t g l =
    Sums l.words.width l.words.order l.cap l.found × Monos (λ s. Shaped l.words.width l.places (met l.found) (holds s)) (take l.t-index l.bits)
