use Rattle.std.proofs.Common.{◌-◌, arith, rules}
use Rattle.std.proofs.lemmas.List.{same_lists, places, get_or-set_same}
use Rattle.std.proofs.lemmas.Bool.{cases_eq}
use Rattle.terms.proofs.table.drop_of_many.Goals as goal

pub returns : goal.returns
returns g c = let e = c.rotate_left.ensures.after in same_lists _ _ (search (rules, places)) (λ k d h. let w = cases_eq k (c.args.len - 1) in grind (arith, places, get_or-set_same))
