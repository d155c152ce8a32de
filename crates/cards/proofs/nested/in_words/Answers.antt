use Rattle.std.proofs.Common.{◌<◌, rules, tests}
use Rattle.std.specs.Bool.{⊤}
use Rattle.std.proofs.lemmas.Iterator.{YieldsList-from_slice, cases_from_all}
use Rattle.terms.specs.Sets.{Within}
use Rattle.cards.proofs.Tests.{passed, monos_within, codes_within}
use Rattle.cards.proofs.nested.in_words.Goals as goal

pub returns-clause-codes : goal.returns-clause-codes
returns-clause-codes c = λ h.
    let bits = c.args.bits.now in
    codes_within (λ x. x < c.args.order) bits (passed _ _ c.all.result
    (cases_from_all _ _ _ (λ t. t.code < c.args.order) (λ t. ⊤) c.all.ensures.ran (YieldsList-from_slice bits cc) (λ x q k. search (rules, tests)) (λ x q k. tt)) h)

pub returns-clause-nets : goal.returns-clause-nets
returns-clause-nets c = λ h.
    let bits = c.args.bits.now in
    monos_within (Within c.args.places) bits (passed _ _ c.all.result
    (cases_from_all _ _ _ (λ t. Within c.args.places t.mono) (λ t. ⊤) c.all.ensures.ran (YieldsList-from_slice bits cc) (λ x q k. search (rules, tests)) (λ x q k. tt)) h)
