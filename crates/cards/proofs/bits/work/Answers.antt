use Rattle.std.proofs.Common.{min, length, subst, subst₂}
use Rattle.algebra.specs.Field.{product}
use Rattle.convert.specs.Convert.{factors_of, Answered}
use Rattle.convert.specs.Places.{row_held}
use Rattle.terms.specs.Nets.{net_model}
use Rattle.cards.proofs.Blocks.{bits_answered_by}
use Rattle.cards.proofs.bits.work.Goals as goal

pub returns-clause-bits : goal.returns-clause-bits
returns-clause-bits g c =
    let m = g.F.Field.model c.args.field.now in
    let l = g.met.F.Field.holds c.args.field.now in
    let parts = c.new.ensures in
    let card = c.args.card.now in
    let rows = c.convert.new.res in
    let cap = min (length c.args.first.now) (length c.args.second.now) in
    let count = length c.args.bits.now in
    let by_source = subst (λ x. Answered net_model (product (g.F.Field.model c.new.result.ring.field.now)) cap count (λ s. factors_of c.new.result.factors (row_held x.width s)) card rows c.convert.result) parts.source c.convert.ensures.worked in
    let by_parts = subst₂ (λ r f. Answered net_model (product (g.F.Field.model r.field.now)) cap count (λ s. factors_of f (row_held c.width-width.result s)) card rows c.convert.result) parts.ring parts.factors by_source in
    bits_answered_by m l c.args.n c.word_sums-sums.result c.requires c.word_sums-sums.ensures c.width-width.result cap count card rows c.convert.result c.width-width.ensures by_parts
