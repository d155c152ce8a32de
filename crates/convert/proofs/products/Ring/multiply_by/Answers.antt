use Rattle.std.proofs.Common.{◌≡◌, true, sym, subst, rules}
use Rattle.algebra.specs.Field.{product}
use Rattle.terms.specs.Lent.{live, capacity}
use Rattle.convert.specs.Owned.{Owned}
use Rattle.convert.specs.Products.{all_products}
use Rattle.convert.proofs.Steps.{all_own, adding_monos}
use Rattle.convert.proofs.Underway.{if_ok}
use Rattle.convert.proofs.products.Ring.multiply_by.Goals as goal

pub returns-clause-own : goal.returns-clause-own
returns-clause-own g c =
    let k = g.K.Kind.model c.args.self.now.kind.now in
    let L = g.met.K.Kind.holds c.args.self.now.kind.now in
    let mul = product (g.F.Field.model c.args.self.now.field.now) in
    let ts = live c.args.first.now in
    let us = c.args.factor.now in
    let own : Owned k (live c.multiply.new.out) = adding_monos k L mul (λ m. k.own m ≡ true) (capacity c.reset.new.self) (all_products k mul ts us) (live c.reset.new.self) (live c.multiply.new.out)
    (all_own k L mul ts us c.requires.own c.requires.owned) (search rules) c.in_ok-multiply.ensures.sum in
    if_ok _ _ _ c.refill.result (λ x. subst (Owned k) (sym x.0) own) c.refill.ensures.copied
