use Rattle.std.proofs.Common.{sym, ◌∙◌}
use Rattle.terms.proofs.Members.{laws_of_sets}
use Rattle.cards.specs.Sums.{single_net}
use Rattle.cards.proofs.Blocks.{one_member}
use Rattle.cards.proofs.sums.one_net.Goals as goal

pub returns : goal.returns
returns c =
    let p = c.args.p in
    let one = one_member p c.requires in
    laws_of_sets.only c.of_net.result (single_net p) c.of_net.ensures.own one.own (λ g. c.of_net.ensures.members g ∙ sym (one.members g))
