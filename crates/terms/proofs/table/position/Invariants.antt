use Rattle.std.proofs.Common.{length, ◌-◌, ◌≤◌}
use Rattle.terms.specs.Terms.{place}
use Rattle.terms.proofs.table.position.Given as goal

abbrev pub invariant-loop-lo : goal.invariant-loop-lo
invariant-loop-lo g l =
    let p = place (g.K.Kind.model l.kind) l.mono l.terms in
    (l.lo ≤ p) × (p ≤ l.hi) × (l.hi ≤ length l.terms)

abbrev pub decreases-loop-lo : goal.decreases-loop-lo
decreases-loop-lo g l = l.hi - l.lo
