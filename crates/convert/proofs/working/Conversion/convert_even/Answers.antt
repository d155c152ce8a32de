use Rattle.std.proofs.Common.{◌≡◌, [], length, take, ap, ◌∙◌, rules}
use Rattle.std.proofs.lemmas.List.{length-replicate}
use Rattle.algebra.specs.Field.{product}
use Rattle.terms.specs.Terms.{blank}
use Rattle.terms.specs.Lent.{live, capacity}
use Rattle.convert.specs.Convert.{factors_of, stopped}
use Rattle.convert.proofs.Steps.{conv_at}
use Rattle.convert.proofs.working.Conversion.convert_even.Goals as goal

pub returns-in-Err-clause-worked : goal.returns-in-Err-clause-worked
returns-in-Err-clause-worked g c =
    let k = g.K.Kind.model c.args.self.now.ring.kind.now in
    let mul = product (g.F.Field.model c.args.self.now.ring.field.now) in
    let factors = (λ (s : g.row.S.Denot). factors_of c.args.self.now.factors (g.H.Holds.held c.args.self.now.source.now s)) in
    let w = c.work-end.ensures in
    let one : capacity c.new-one.result ≡ length c.args.first.now = ap length c.new-one.ensures.zero ∙ length-replicate (length c.args.first.now) (blank k) in
    let out : capacity c.new-out.result ≡ length c.args.res.now = ap length c.new-out.ensures.zero ∙ length-replicate (length c.args.res.now) (blank k) in
    let none : live c.new-out.result ≡ [] = ap (λ i. take i c.new-out.result.rows.now) c.new-out.ensures.len in (
      conv_at k mul (length c.args.first.now) (capacity c.new-one.result) (length c.args.res.now) (capacity c.new-out.result) factors c.args.terms.now (live c.new-out.result) (stopped c.in-Err.full) one out none c.in-Err.ensures.worked,
      search rules,
    )
