use Rattle.std.proofs.Common.{◌≡◌, true, false, take, sym, ◌∙◌, subst, rules, tests}
use Rattle.std.specs.Bool.{⊤}
use Rattle.std.specs.List.{prefix_len}
use Rattle.std.proofs.lemmas.Iterator.{YieldsList-from_slice, cases_from_all}
use Rattle.std.proofs.lemmas.Iterator.Consumers.{count_from_yields_List}
use Rattle.std.proofs.lemmas.Iterator.Search.{YieldsList-from_take_while}
use Rattle.std.proofs.lemmas.List.Folds.{length-prefix_len}
use Rattle.terms.specs.Sets.{holds}
use Rattle.terms.specs.Terms.{Monos}
use Rattle.terms.specs.declared.Term.{Term}
use Rattle.terms.specs.declared.nets.NetSet.{NetSet}
use Rattle.cards.specs.Nested.{ByNet}
use Rattle.cards.proofs.Tests.{passed, given, monos_within, front_monos}
use Rattle.cards.proofs.nested.by_net.Goals as goal

pub returns : goal.returns
returns c =
    let bits = c.args.bits.now in
    let has = (λ (t : Term NetSet). holds t.mono c.args.p) in
    let n : c.count-n.result ≡ prefix_len has bits =
    count_from_yields_List _ c.count-n.result c.count-n.ensures.ran (YieldsList-from_take_while _ has (YieldsList-from_slice bits cc) c.take_while.ensures.closure c.take_while.ensures.done (λ x b q k. search (rules, tests)))
    ∙ length-prefix_len has bits in
    let held = subst (λ i. Monos (λ s. holds s c.args.p ≡ true) (take i bits)) (sym n) (front_monos has (λ s. holds s c.args.p ≡ true) (λ t e. e) bits) in
    rw c.then_some.ensures (given (λ x. ByNet c.args.p bits x.0.now x.1.now) c.all-in_order.result _ (λ h. record {
      whole = c.split_at.ensures.by_index.0;
      held = subst (Monos (λ s. holds s c.args.p ≡ true)) (sym c.split_at.ensures.front) held;
      lacked = monos_within (λ s. holds s c.args.p ≡ false) c.split_at.result.1.now (passed _ _ c.all-in_order.result
          (cases_from_all _ _ _ (λ t. holds t.mono c.args.p ≡ false) (λ t. ⊤) c.all-in_order.ensures.ran (YieldsList-from_slice c.split_at.result.1.now cc) (λ x q k. search (rules, tests)) (λ x q k. tt)) h);
    }))
