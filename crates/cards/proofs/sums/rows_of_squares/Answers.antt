use Rattle.std.proofs.Common.{◌<◌, [], slice_index, arith, rules}
use Rattle.algebra.specs.Field.{size}
use Rattle.cards.specs.Sums.{Squares}
use Rattle.cards.proofs.Arrays.{made_same}
use Rattle.cards.proofs.sums.rows_of_squares.Goals as goal

pub returns : goal.returns
returns g c = λ i h u.
    let m = g.F.Field.model c.args.field.now in
    let l = g.met.F.Field.holds c.args.field.now in
    made_same _ (λ i row. i < m.width → slice_index c.args.codes i < size m → Squares m (slice_index c.args.codes i) row) _ (λ i y q k. search rules) (λ i y q k. search rules) c.from_fn.result 8 c.from_fn.ensures.items i (omega (arith, l.wide)) [] h u
