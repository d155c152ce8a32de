use Rattle.std.proofs.Common.{refl, arith}
use Rattle.std.proofs.lemmas.List.{get_or-replicate}
use Rattle.cards.proofs.sums.sums_by.Goals as goal

pub loop-t-init : goal.loop-t-init
loop-t-init g c = (refl, λ i h x. absurd (omega arith), λ i u h x. get_or-replicate 192 i _ x h)
