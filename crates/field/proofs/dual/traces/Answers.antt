use Rattle.std.proofs.Common.{◌≡◌, ◌^◌, ◌<◌, rules}
use Rattle.algebra.specs.Codes.{trace}
use Rattle.field.proofs.Arrays.{each_made}
use Rattle.field.proofs.dual.traces.Goals as goal

pub returns : goal.returns
returns g c = λ i h. each_made _ (λ i y. i < 8 → y ≡ trace (g.F.Field.model c.args.f.now) (2 ^ i)) _ (λ i y q k. search rules) c.from_fn.result 8 c.from_fn.ensures.items i 0 h h
