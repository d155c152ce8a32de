use Rattle.std.proofs.Common.{[], arith}
use Rattle.std.proofs.lemmas.Grind.{common_steps}
use lib.Bits.{xor_zero_r, xor_assoc, xor_zero_l}
use Rattle.std.proofs.lemmas.List.{at_drop_more, at_drop_all}
use Rattle.terms.specs.Sets.{holds}
use Rattle.terms.specs.Values.{value_under}
use Rattle.terms.specs.declared.Term.{Term}
use Rattle.terms.specs.declared.nets.NetSet.{NetSet}
use Rattle.forms.proofs.inputs.sum_within.Goals as goal

pub loop-term-preserved : goal.loop-term-preserved
loop-term-preserved c =
    let none : Term NetSet = record { code = 0; mono = record { words = [] } } in
    let e = at_drop_more (value_under (holds c.args.input)) c.args.terms.now c.loop-term.term-index none c.loop-term-test.true in
    grind (arith, common_steps, xor_assoc, xor_zero_l)

pub returns : goal.returns
returns c =
    let e = at_drop_all (value_under (holds c.args.input)) c.args.terms.now c.loop-term.term-index c.loop-term-test.false in
    grind (arith, common_steps, xor_zero_r)
