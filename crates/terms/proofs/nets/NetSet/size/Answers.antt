use Rattle.std.proofs.Common.{◌≡◌, ℕ, ◌^◌, ◌<◌, count_ones, length, get_or, sym, ◌∙◌, rules}
use Rattle.std.proofs.lemmas.Iterator.{YieldsList-from_slice, YieldsList-from_map}
use Rattle.std.proofs.lemmas.Iterator.Consumers.{YieldsList-at, sum_by_from_yields_List, fits_by_from_yields_list}
use Rattle.terms.proofs.Counts.{nets_sum, few_ones}
use Rattle.terms.proofs.nets.NetSet.size.Goals as goal

pub sum-requires-clause-fits : goal.sum-requires-clause-fits
sum-requires-clause-fits c =
    let ws = c.args.self.words in
    let l : length ws ≡ 4 = search rules in
    let b : (i : ℕ) → get_or ws i 0 < 2 ^ 64 = λ i. search rules in
    fits_by_from_yields_list count_ones ws c.map.result _
    (YieldsList-from_map _ count_ones (YieldsList-at c.map.ensures.source (YieldsList-from_slice ws cc)) c.map.ensures.closure (λ x r q k. search rules))
    (few_ones ws l b)

pub returns : goal.returns
returns c =
    let ws = c.args.self.words in
    let l : length ws ≡ 4 = search rules in
    let b : (i : ℕ) → get_or ws i 0 < 2 ^ 64 = λ i. search rules in
    sum_by_from_yields_List count_ones ws c.map.result _ c.sum.ensures.ran
    (YieldsList-from_map _ count_ones (YieldsList-at c.map.ensures.source (YieldsList-from_slice ws cc)) c.map.ensures.closure (λ x r q k. search rules))
    ∙ sym (nets_sum ws l b)
