use Rattle.std.proofs.Common.{◌≡◌, ℕ, ◌^◌, ◌<◌, slice_index_or, [], subst, arith, rules}
use lib.Pow.{pow-lt}
use Rattle.algebra.specs.Field.{size}
use Rattle.cards.specs.Sums.{Squares}
use Rattle.cards.proofs.Arrays.{made_same}
use Rattle.cards.proofs.Blocks.{one_bit}
use Rattle.cards.proofs.sums.bit_squares.Goals as goal

pub returns : goal.returns
returns g c = λ i j h k.
    let m = g.F.Field.model c.args.field.now in
    let l = g.met.F.Field.holds c.args.field.now in
    let small : i < 8 = omega (arith, l.wide) in
    let e = made_same _ (λ i y. i < 8 → y ≡ 2 ^ i) _ (λ i y q u h. search (rules, one_bit)) (λ i y q u. search rules) c.from_fn.result 8 c.from_fn.ensures.items i small 0 small in
    subst (λ (x : ℕ). x < size m → Squares m x (slice_index_or c.rows_of_squares.result i [])) e (c.rows_of_squares.ensures i h) (pow-lt h) j k
