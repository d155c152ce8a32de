use Rattle.std.proofs.Common.{◌≡◌, length, sym, ap, ◌∙◌, rules, arith}
use Rattle.std.proofs.lemmas.List.{length-take-le}
use Rattle.std.proofs.lemmas.Result.{err_from_is_err_and}
use Rattle.std.specs.Result.{is_ok}
use Rattle.fault.specs.declared.Fault.TheVariants.{BitTableFull}
use Rattle.terms.specs.Lent.{live, capacity}
use Rattle.netlist.specs.Netlists.{circuit}
use Rattle.netlist.proofs.Formed.{formed}
use Rattle.gates.proofs.Found.{found, refused_full, refused_many}
use Rattle.gates.proofs.work.count_terms.Goals as goal

pub returns-in_err-map_err-clause-reached : goal.returns-in_err-map_err-clause-reached
returns-in_err-map_err-clause-reached c =
    let p = err_from_is_err_and c.from_residual.result c.from_residual.ensures.1 in
    let q : c.in_err-map_err.field-0.0 ≡ BitTableFull = search rules in
    rw (p.1, p.2, q)
    (refused_full (circuit c.args.net.now) (capacity c.args.table.now) (live c.reduce.new.table) c.reduce.result (sym c.map_err.ensures.variant ∙ ap is_ok c.in_err-map_err.was) c.reduce.ensures.worked)

pub returns-then-count-gt-MAX_TERMS-clause-reached : goal.returns-then-count-gt-MAX_TERMS-clause-reached
returns-then-count-gt-MAX_TERMS-clause-reached c =
    let t = c.reduce.new.table in
    let l : length (live t) ≡ t.len = length-take-le t.len t.rows.now c.reduce.ensures.kept.table.within in
    refused_many (circuit c.args.net.now) (capacity c.args.table.now) (live t) c.reduce.result (sym c.map_err.ensures.variant ∙ ap is_ok c.in_ok-map_err.was) c.reduce.ensures.worked (omega arith)

pub returns-clause-reached : goal.returns-clause-reached
returns-clause-reached c =
    let t = c.reduce.new.table in
    let l : length (live t) ≡ t.len = length-take-le t.len t.rows.now c.reduce.ensures.kept.table.within in (
      found (circuit c.args.net.now) (capacity c.args.table.now) (live t) (formed c.args.net.now) c.reduce.result (sym c.map_err.ensures.variant ∙ ap is_ok c.in_ok-map_err.was) c.reduce.ensures.worked
          (omega arith),
      omega arith,
    )
