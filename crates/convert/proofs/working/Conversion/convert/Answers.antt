use Rattle.std.proofs.Common.{length, subst, arith}
use Rattle.std.proofs.lemmas.Grind.{common_steps}
use Rattle.std.proofs.lemmas.List.{length-replicate, length-take-le, drop-replicate}
use lib.ListN.{replicate-append-replicate}
use Rattle.algebra.specs.Field.{product}
use Rattle.convert.specs.Convert.{factors_of, Answered}
use Rattle.convert.proofs.working.Conversion.convert.Goals as goal

pub returns-clause-first : goal.returns-clause-first
returns-clause-first g c = grind (arith, common_steps, replicate-append-replicate, drop-replicate, length-replicate)

pub returns-clause-second : goal.returns-clause-second
returns-clause-second g c = grind (arith, common_steps, replicate-append-replicate, drop-replicate, length-replicate)

pub returns-clause-worked : goal.returns-clause-worked
returns-clause-worked g c =
    let k = g.K.Kind.model c.args.self.now.ring.kind.now in
    let mul = product (g.F.Field.model c.args.self.now.ring.field.now) in
    let factors = (λ (s : g.row.S.Denot). factors_of c.args.self.now.factors (g.H.Holds.held c.args.self.now.source.now s)) in
    subst (λ n. Answered k mul n (length c.args.res.now) factors c.args.terms.now c.convert_even.new.res c.convert_even.result) (grind (arith, common_steps, length-replicate, length-take-le)) c.convert_even.ensures.worked
