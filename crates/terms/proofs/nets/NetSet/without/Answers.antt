use Rattle.std.proofs.Common.{◌≡◌, ℕ, ◌^◌, ◌<◌, length, get_or, arith, rules}
use Rattle.terms.proofs.Changes.{net_out}
use Rattle.terms.proofs.nets.NetSet.without.Goals as goal

pub returns : goal.returns
returns c =
    let l : length c.args.self.words ≡ 4 = search rules in
    let b : (i : ℕ) → get_or c.args.self.words i 0 < 2 ^ 64 = λ i. search rules in
    rw c.from.ensures (net_out c.args.self.words c.args.g (omega (arith, c.ranges.g.fits)) l b)
