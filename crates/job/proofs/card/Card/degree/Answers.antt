use Rattle.std.proofs.Common.{◌≡◌, ℕ, max, List, [], ◌∷◌, ap, ◌∙◌, arith, rules, unwrap_or}
use Rattle.std.specs.List.{fold}
use Rattle.std.specs.Ordering.{max_by_ordering, nat_cmp}
use Rattle.std.proofs.lemmas.Iterator.{YieldsList-from_slice, YieldsList-from_map}
use Rattle.std.proofs.lemmas.Iterator.Consumers.{reduce_from_yields_List}
use Rattle.std.proofs.lemmas.List.Folds.{max_of_map}
use Rattle.terms.specs.declared.Term.{Term}
use Rattle.job.specs.Printing.{degree, total}
use Rattle.job.specs.Cards.{terms_of}
use Rattle.job.proofs.card.Card.degree.Goals as goal

-- the degree, found row by row
degree_so_far : (most : ℕ) (ts : List (Term (List ℕ))) → fold (λ most t. max most (total t.mono)) most ts ≡ max most (degree ts)
degree_so_far most [] = omega arith
degree_so_far most (t ∷ ts) = omega (arith, degree_so_far (max most (total t.mono)) ts)

pub returns : goal.returns
returns c =
    let ts = terms_of c.args.self.now in
    let most = reduce_from_yields_List (λ p z. max_by_ordering (nat_cmp p z) p z) c.map.result c.max.result c.max.ensures.ran (YieldsList-from_map _ (λ t. total t.mono) (YieldsList-from_slice ts cc) c.map.ensures.closure (λ x r q k. search rules)) in
    c.unwrap_or.ensures ∙ ap (λ o. unwrap_or o 0) most ∙ omega (arith, max_of_map (λ t. total t.mono) ts, degree_so_far 0 ts)
