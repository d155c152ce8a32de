use Rattle.std.proofs.Common.{rules}
use Rattle.terms.proofs.Changes.{own_of}
use Rattle.gates.proofs.Unions.{joined_one}
use Rattle.gates.proofs.tail.with_net.Goals as goal

pub returns : goal.returns
returns c = rw c.times.ensures (joined_one c.args.s c.of_net.result c.args.x.0 (own_of c.args.s.words (search rules) (λ i. search rules)) c.of_net.ensures)
