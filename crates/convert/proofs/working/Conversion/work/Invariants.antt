use Rattle.std.proofs.Common.{◌≡◌, drop}
use Rattle.algebra.specs.Field.{product}
use Rattle.terms.specs.Lent.{live, capacity, Kept}
use Rattle.convert.specs.Convert.{factors_of, converting}
use Rattle.convert.proofs.working.Conversion.work.Given as goal

abbrev pub invariant-loop-t : goal.invariant-loop-t
invariant-loop-t g l =
    let k = g.K.Kind.model l.self.ring.kind.now in
    let mul = product (g.F.Field.model l.self.ring.field.now) in
    let work = converting k mul (capacity l.initial.first) (capacity l.initial.res) (λ s. factors_of l.self.factors (g.H.Holds.held l.self.source.now s)) in
    Kept k l.initial.first l.first × Kept k l.initial.second l.second × Kept k l.initial.res l.res
    × (work (drop l.t-index l.terms) (live l.res) ≡ work l.terms (live l.initial.res))
