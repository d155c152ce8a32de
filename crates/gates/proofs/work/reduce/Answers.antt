use Rattle.std.proofs.Common.{subst}
use Rattle.std.proofs.lemmas.Result.{err_from_is_err_and}
use Rattle.terms.specs.Lent.{live, capacity}
use Rattle.terms.specs.Additions.{done, full}
use Rattle.netlist.specs.Netlists.{circuit}
use Rattle.netlist.proofs.Formed.{formed}
use Rattle.gates.specs.Reductions.{Reduces}
use Rattle.gates.specs.Tails.{ended}
use Rattle.gates.proofs.Outs.{from_empty, starts, goes_on, stops_there}
use Rattle.gates.proofs.work.reduce.Goals as goal

pub returns-in_err-add_outs-clause-worked : goal.returns-in_err-add_outs-clause-worked
returns-in_err-add_outs-clause-worked c =
    let p = err_from_is_err_and c.from_residual.result c.from_residual.ensures.1 in
    let k = circuit c.args.net.now in
    let w = formed c.args.net.now in
    let cap = capacity c.args.table.now in
    let us = live c.add_outs.new.table in
    rw p.1 (stops_there k cap us w (from_empty k w cap (live c.args.table.now) (full us) c.requires.empty c.in_err-add_outs.ensures.sum))

pub replace_gates-requires-clause-terms : goal.replace_gates-requires-clause-terms
replace_gates-requires-clause-terms c =
    let k = circuit c.args.net.now in
    let w = formed c.args.net.now in
    let cap = capacity c.args.table.now in
    let us = live c.add_outs.new.table in
    starts k cap us w (from_empty k w cap (live c.args.table.now) (done us) c.requires.empty c.in_ok-add_outs.ensures.sum)

pub returns-clause-worked : goal.returns-clause-worked
returns-clause-worked c =
    let k = circuit c.args.net.now in
    let w = formed c.args.net.now in
    let cap = capacity c.args.table.now in
    let us = live c.add_outs.new.table in
    let e = ended c.replace_gates.result (live c.replace_gates.new.table) in
    goes_on k cap us e w (from_empty k w cap (live c.args.table.now) (done us) c.requires.empty c.in_ok-add_outs.ensures.sum)
    (subst (λ n. Reduces k n us e) c.in_ok-add_outs.ensures.kept.room c.replace_gates.ensures.end)
