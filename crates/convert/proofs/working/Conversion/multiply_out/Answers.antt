use Rattle.std.proofs.Common.{◌≡◌, ◌+◌, ◌-◌, [], sym, subst, subst₂}
use Rattle.std.proofs.lemmas.Result.{err_from_is_err_and}
use Rattle.algebra.specs.Field.{product}
use Rattle.terms.specs.Lent.{live, capacity}
use Rattle.terms.specs.Additions.{done, full, adding}
use Rattle.convert.specs.Convert.{block, chosen}
use Rattle.convert.specs.Products.{all_products}
use Rattle.convert.proofs.Midway.{Midway, factor_more, factor_full}
use Rattle.convert.proofs.Steps.{block_owned, chosen_held, chosen_not}
use Rattle.convert.proofs.working.Conversion.multiply_out.Goals.{then-holds+in_ok-multiply_by, else-holds}
use Rattle.convert.proofs.working.Conversion.multiply_out.Goals as goal

pub multiply_by-requires-clause-owned : goal.multiply_by-requires-clause-owned
multiply_by-requires-clause-owned g c = rw c.at.ensures (block_owned (g.K.Kind.model c.args.self.now.ring.kind.now) c.args.self.now.factors _ c.args.self.now.owned)

pub returns-in_err-multiply_by-clause-worked : goal.returns-in_err-multiply_by-clause-worked
returns-in_err-multiply_by-clause-worked g c =
    let p = err_from_is_err_and c.from_residual.result c.from_residual.ensures.1 in
    let k = g.K.Kind.model c.args.self.now.ring.kind.now in
    let mul = product (g.F.Field.model c.args.self.now.ring.field.now) in
    let held = g.H.Holds.held c.args.self.now.source.now c.args.s in
    let f = block c.args.self.now.factors.width c.args.self.now.factors.sums.now in
    let i = c.loop-p.p in
    let n = c.args.self.now.factors.places in
    let left = chosen held f (i + 1) (n - (i + 1)) in
    let b' = c.multiply_by.new.second in
    let e = subst (λ y. adding k (capacity c.loop-p.first) (all_products k mul (live c.loop-p.first) y) [] ≡ full (live b')) c.at.ensures c.in_err-multiply_by.ensures.worked in
    rw p.1 (factor_full k mul c.args.first.now c.loop-p.first c.args.second.now c.loop-p.second (f i) left (chosen held f 0 n)
    (subst (λ x. Midway k mul c.args.first.now c.loop-p.first c.args.second.now c.loop-p.second x (chosen held f 0 n)) (chosen_held held f i n c.loop-p-test.true (sym c.if-holds.ensures)) c.loop-p.invariant) b' e)

pub loop-p-preserved : goal.loop-p-preserved
loop-p-preserved g c =
    let k = g.K.Kind.model c.args.self.now.ring.kind.now in
    let mul = product (g.F.Field.model c.args.self.now.ring.field.now) in
    let held = g.H.Holds.held c.args.self.now.source.now c.args.s in
    let f = block c.args.self.now.factors.width c.args.self.now.factors.sums.now in
    let i = c.loop-p.p in
    let n = c.args.self.now.factors.places in
    let all = chosen held f 0 n in
    let left = chosen held f (i + 1) (n - (i + 1)) in
    let a = c.loop-p.first in
    let b = c.loop-p.second in
    elim c.if-holds.branch [
      | then-holds+in_ok-multiply_by w ↦
          let s = w.in_ok-multiply_by.ensures in
          let a' = w.multiply_by.new.first in
          let e = subst (λ y. adding k (capacity a) (all_products k mul (live a) y) [] ≡ done (live a')) w.at.ensures s.worked in
          subst₂ (λ x y. Midway k mul c.args.first.now x c.args.second.now y left all) (sym w.first-is) (sym w.second-is)
          (factor_more k mul c.args.first.now a c.args.second.now b (f i) left all
          (subst (λ x. Midway k mul c.args.first.now a c.args.second.now b x all) (chosen_held held f i n c.loop-p-test.true (sym w.if-holds.ensures)) c.loop-p.invariant)
          a' w.multiply_by.new.second s.first s.second e s.own)
      | else-holds w ↦
          subst₂ (λ x y. Midway k mul c.args.first.now x c.args.second.now y left all) (sym w.first-is) (sym w.second-is)
          (subst (λ x. Midway k mul c.args.first.now a c.args.second.now b x all) (chosen_not held f i n c.loop-p-test.true (sym w.if-holds.ensures)) c.loop-p.invariant)
    ]
