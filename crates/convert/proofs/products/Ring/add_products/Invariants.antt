use Rattle.std.proofs.Common.{drop}
use Rattle.algebra.specs.Field.{product}
use Rattle.convert.specs.Products.{products}
use Rattle.convert.proofs.Underway.{Underway}
use Rattle.convert.proofs.products.Ring.add_products.Given as goal

abbrev pub invariant-loop-u : goal.invariant-loop-u
invariant-loop-u g l =
    let k = g.K.Kind.model l.self.kind.now in
    let mul = product (g.F.Field.model l.self.field.now) in
    Underway k l.initial.out l.out (products k mul l.t.code l.t.mono (drop l.u-index l.factor)) (products k mul l.t.code l.t.mono l.factor)
