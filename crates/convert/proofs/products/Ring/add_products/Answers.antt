use Rattle.std.proofs.Common.{◌+◌, drop, subst}
use Rattle.algebra.specs.Field.{product}
use Rattle.convert.specs.Products.{products}
use Rattle.convert.proofs.Additions.{products_next}
use Rattle.convert.proofs.Underway.{Underway, under_more}
use Rattle.convert.proofs.products.Ring.add_products.Goals as goal

pub loop-u-preserved : goal.loop-u-preserved
loop-u-preserved g c =
    let k = g.K.Kind.model c.args.self.now.kind.now in
    let mul = product (g.F.Field.model c.args.self.now.field.now) in
    let t = c.args.t.now in
    let us = c.args.factor.now in
    let i = c.loop-u.u-index in
    let e = products_next k mul t.code t.mono us i c.loop-u-test.true c.u-item.result c.u-item.is c.mul-code.result c.times-mono.result c.mul-code.ensures c.times-mono.ensures in
    under_more k c.args.out.now c.loop-u.out c.add.new.self (products k mul t.code t.mono (drop (i + 1) us)) (products k mul t.code t.mono us) c.mul-code.result c.times-mono.result
    (subst (λ x. Underway k c.args.out.now c.loop-u.out x (products k mul t.code t.mono us)) e c.loop-u.invariant) c.in_ok-add.ensures.same c.in_ok-add.ensures.sum
