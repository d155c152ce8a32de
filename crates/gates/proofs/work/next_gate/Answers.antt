use Rattle.std.proofs.Common.{◌<◌, sym, ◌∙◌, subst, ⊎_elim, arith}
use Rattle.std.proofs.lemmas.Bool.{cases_lt}
use Rattle.terms.proofs.Members.{never}
use Rattle.terms.specs.Lent.{live}
use Rattle.netlist.specs.Netlists.{circuit}
use Rattle.netlist.specs.Circuits.{inputs, nets}
use Rattle.gates.specs.Forms.{TermsOf}
use Rattle.gates.proofs.Falls.{ends_bits, ends_empty}
use Rattle.gates.proofs.work.next_gate.Goals as goal

pub returns-in_err-lead : goal.returns-in_err-lead
returns-in_err-lead c = rw c.from_residual.ensures (λ cap. ends_empty (circuit c.args.net.now) cap (live c.args.table.now) c.in_err-lead.ensures)

pub returns-in_err-g : goal.returns-in_err-g
returns-in_err-g c =
    let leads = c.in_ok-lead.ensures in
    rw c.from_residual-in_err-g.ensures
    (λ cap. ends_bits (circuit c.args.net.now) cap (live c.args.table.now) leads.0 c.in_ok-lead.lead leads.1 (λ g e. never (sym e ∙ c.in_err-g.ensures g)))

pub returns-in_err-gate : goal.returns-in_err-gate
returns-in_err-gate c =
    let k = circuit c.args.net.now in
    let leads = c.in_ok-lead.ensures in
    let lead = c.in_ok-lead.lead in
    let g = c.in_ok-g.g in
    let top = c.in_ok-g.ensures in
    let high : g < nets k = (subst (TermsOf k) leads.1 c.requires.terms).driven.0 g top.has in
    let input : g < inputs k = ⊎_elim (λ l. l) (λ l. absurd (c.in_err-gate.ensures (rw c.from.ensures l) (rw c.from.ensures high))) (cases_lt g (inputs k)) in
    rw c.from_residual-in_err-gate.ensures
    (λ cap. ends_bits k cap (live c.args.table.now) leads.0 lead leads.1 (λ h e. ⊎_elim (λ m. never (sym e ∙ top.above h m)) (λ m. omega arith) (cases_lt g h)))
