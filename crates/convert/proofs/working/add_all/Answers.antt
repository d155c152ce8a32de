use Rattle.std.proofs.Common.{◌+◌, drop, subst}
use Rattle.terms.specs.Lent.{live}
use Rattle.convert.proofs.Additions.{drop_next}
use Rattle.convert.proofs.Underway.{Underway, under_more}
use Rattle.convert.proofs.working.add_all.Goals as goal

pub loop-t-preserved : goal.loop-t-preserved
loop-t-preserved g c =
    let k = g.K.Kind.model c.args.kind.now in
    let ts = c.terms-t-items.result.now in
    let i = c.loop-t.t-index in
    let t = c.t-item.result in
    let all = live c.args.first.now in
    under_more k c.args.out.now c.loop-t.out c.add.new.self (drop (i + 1) ts) all t.code t.mono
    (subst (λ x. Underway k c.args.out.now c.loop-t.out x all) (drop_next ts i c.loop-t-test.true t c.t-item.is) c.loop-t.invariant) c.in_ok-add.ensures.same c.in_ok-add.ensures.sum
