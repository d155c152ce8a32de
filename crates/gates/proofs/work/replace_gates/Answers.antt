use Rattle.std.proofs.Common.{◌≡◌, ◌∙◌, subst, sym}
use Rattle.std.proofs.lemmas.Result.{err_from_is_err_and}
use Rattle.terms.specs.Lent.{live, capacity}
use Rattle.terms.specs.Nets.{net_model}
use Rattle.terms.specs.Additions.{Ended, done, full, adding}
use Rattle.terms.specs.declared.nets.NetSet.{NetSet}
use Rattle.netlist.specs.Netlists.{circuit}
use Rattle.netlist.specs.Meaning.{tail}
use Rattle.netlist.proofs.Formed.{formed}
use Rattle.gates.specs.Tails.{each, Joins}
use Rattle.gates.proofs.Falls.{Turned, table_turned}
use Rattle.gates.proofs.work.replace_gates.Goals as goal
use Rattle.gates.proofs.work.replace_gates.Goals.{After-add_each}

turn : (c : After-add_each) (e : Ended NetSet) → adding net_model (capacity c.take_lead.new.self) (each c.in-Some.lead.code c.as_slice.result.now) (live c.take_lead.new.self) ≡ e
    → (capacity c.take_lead.new.self ≡ capacity c.args.table.now) × Turned (circuit c.args.net.now) (capacity c.args.table.now) (live c.loop-lead.table) e
turn c e a =
    table_turned (circuit c.args.net.now) (formed c.args.net.now) (capacity c.args.table.now) c.loop-lead.table c.take_lead.new.self c.in-Some.lead c.in-Some.g c.in-Some.gate c.in-Some.ensures
    c.loop-lead.invariant.1 c.loop-lead.invariant.0.room c.take_lead.result c.take_lead.ensures.off c.without.result c.without.ensures c.as_slice.result.now
    (subst (Joins c.without.result (tail c.in-Some.gate)) (sym c.as_slice.ensures) c.tail_of-tail.ensures) e a

pub loop-lead-smaller : goal.loop-lead-smaller
loop-lead-smaller c = (turn (goal.at.loop-lead-smaller c).After-add_each (done (live c.add_each.new.table)) c.in_ok-add_each.ensures.sum).1.1

pub loop-lead-preserved : goal.loop-lead-preserved
loop-lead-preserved c =
    let t = turn (goal.at.loop-lead-preserved c).After-add_each (done (live c.add_each.new.table)) c.in_ok-add_each.ensures.sum in
    let k = c.in_ok-add_each.ensures.kept in
    let i = c.loop-lead.invariant in
    (record { same = k.same ∙ c.take_lead.ensures.same ∙ i.0.same; room = k.room ∙ t.0; table = k.table }, t.1.0, λ e r. i.2 e (t.1.2 e r))

pub returns-in_err-add_each-clause-end : goal.returns-in_err-add_each-clause-end
returns-in_err-add_each-clause-end c =
    let p = err_from_is_err_and c.from_residual.result c.from_residual.ensures.1 in
    let us = live c.add_each.new.table in
    rw p.1 (c.loop-lead.invariant.2 (full us) (turn (goal.at.returns-in_err-add_each-clause-end c).After-add_each (full us) c.in_err-add_each.ensures.sum).1)
