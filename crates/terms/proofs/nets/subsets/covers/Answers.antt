use Rattle.std.proofs.Common.{ℕ, ◌^◌, ◌<◌, get_or, rules, tests}
use Rattle.std.proofs.lemmas.Iterator.{YieldsList-from_slice, YieldsList-from_zip, cases_from_all}
use Rattle.terms.proofs.Subsets.{Covered, subset_tested}
use Rattle.terms.proofs.nets.subsets.covers.Goals as goal

pub returns : goal.returns
returns c =
    let xs = c.args.inner in
    let ys = c.args.outer in
    let bx : (i : ℕ) → get_or xs i 0 < 2 ^ 64 = λ i. search (rules, c.well_formed) in
    let by : (i : ℕ) → get_or ys i 0 < 2 ^ 64 = λ i. search (rules, c.well_formed) in
    subset_tested xs ys (search rules) (search rules) bx by _
    (cases_from_all c.all.new.self _ _ Covered (λ p. Covered p → ⊥) c.all.ensures.ran
    (YieldsList-from_zip {s = c.zip.result} (YieldsList-from_slice xs cc) (YieldsList-from_slice ys cc))
    (λ x q k. search (rules, tests)) (λ x q k. search (rules, tests)))
