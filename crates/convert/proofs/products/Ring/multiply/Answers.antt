use Rattle.std.proofs.Common.{◌≡◌, ◌+◌, true, drop, sym, subst}
use Rattle.std.proofs.lemmas.Result.{err_from_is_err_and}
use Rattle.algebra.specs.Field.{product}
use Rattle.terms.specs.Lent.{live}
use Rattle.terms.specs.declared.Term.{Term}
use Rattle.convert.specs.Owned.{Owned}
use Rattle.convert.specs.Products.{products, all_products}
use Rattle.convert.proofs.Additions.{monos_at, all_products_next}
use Rattle.convert.proofs.Underway.{Underway, under_all, under_stop}
use Rattle.convert.proofs.products.Ring.multiply.Goals as goal

pub add_products-requires-clause-own : goal.add_products-requires-clause-own
add_products-requires-clause-own g c =
    let k = g.K.Kind.model c.args.self.now.kind.now in
    let ts = c.terms-t-items.result.now in
    subst (λ (x : Term g.row.M.Denot). k.own x.mono ≡ true) (sym c.t-item.is) (monos_at (λ m. k.own m ≡ true) ts c.loop-t.t-index c.t-item.result c.loop-t-test.true (subst (Owned k) (sym c.terms-t-items.ensures) c.requires.first.1))

pub returns-in_err-add_products-clause-sum : goal.returns-in_err-add_products-clause-sum
returns-in_err-add_products-clause-sum g c =
    let p = err_from_is_err_and c.from_residual.result c.from_residual.ensures.1 in
    let k = g.K.Kind.model c.args.self.now.kind.now in
    let mul = product (g.F.Field.model c.args.self.now.field.now) in
    let us = c.args.factor.now in
    let ts = c.terms-t-items.result.now in
    let i = c.loop-t.t-index in
    let t = c.t-item.result in
    let all = all_products k mul (live c.args.first.now) us in
    rw p.1 (under_stop k c.args.out.now c.loop-t.out c.add_products.new.out (all_products k mul (drop (i + 1) ts) us) all (products k mul t.code t.mono us)
    (subst (λ x. Underway k c.args.out.now c.loop-t.out x all) (all_products_next k mul ts us i c.loop-t-test.true t c.t-item.is) c.loop-t.invariant) c.in_err-add_products.ensures.sum)

pub loop-t-preserved : goal.loop-t-preserved
loop-t-preserved g c =
    let k = g.K.Kind.model c.args.self.now.kind.now in
    let mul = product (g.F.Field.model c.args.self.now.field.now) in
    let us = c.args.factor.now in
    let ts = c.terms-t-items.result.now in
    let i = c.loop-t.t-index in
    let t = c.t-item.result in
    let s = c.in_ok-add_products.ensures in
    let all = all_products k mul (live c.args.first.now) us in
    under_all k c.args.out.now c.loop-t.out c.add_products.new.out (all_products k mul (drop (i + 1) ts) us) all (products k mul t.code t.mono us)
    (subst (λ x. Underway k c.args.out.now c.loop-t.out x all) (all_products_next k mul ts us i c.loop-t-test.true t c.t-item.is) c.loop-t.invariant) s.kept s.sum
