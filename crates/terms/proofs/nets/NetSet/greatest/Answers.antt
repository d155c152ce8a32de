use Rattle.std.proofs.Common.{◌≡◌, ◌+◌, ◌*◌, subst, arith}
use Rattle.std.proofs.lemmas.Grind.{common_steps}
use Rattle.terms.specs.Sets.{Top}
use Rattle.terms.proofs.Changes.{top_net}
use Rattle.terms.proofs.nets.NetSet.greatest.Goals as goal

pub returns : goal.returns
returns c =
    let ws = c.args.self.words in
    let i = c.in_ok-i.i in
    let e : i * 64 + c.ilog2.result ≡ 64 * i + c.ilog2.result = omega arith in
    subst (Top c.args.self) e (top_net ws i c.ilog2.result (omega arith) c.ilog2.ensures.power_le (omega arith) (λ k m. grind (arith, common_steps)))
