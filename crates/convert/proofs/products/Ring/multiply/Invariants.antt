use Rattle.std.proofs.Common.{drop}
use Rattle.algebra.specs.Field.{product}
use Rattle.terms.specs.Lent.{live}
use Rattle.convert.specs.Products.{all_products}
use Rattle.convert.proofs.Underway.{Underway}
use Rattle.convert.proofs.products.Ring.multiply.Given as goal

abbrev pub invariant-loop-t : goal.invariant-loop-t
invariant-loop-t g l =
    let k = g.K.Kind.model l.self.kind.now in
    let mul = product (g.F.Field.model l.self.field.now) in
    Underway k l.initial.out l.out (all_products k mul (drop l.t-index l.t-items) l.factor) (all_products k mul (live l.first) l.factor)
