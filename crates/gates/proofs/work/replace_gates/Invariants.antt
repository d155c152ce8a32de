use Rattle.terms.specs.Nets.{net_model}
use Rattle.terms.specs.Lent.{live, capacity, Kept}
use Rattle.terms.specs.declared.nets.NetSet.{NetSet}
use Rattle.netlist.specs.Netlists.{circuit}
use Rattle.terms.specs.Additions.{Ended}
use Rattle.gates.specs.Reductions.{Reduces}
use Rattle.gates.specs.Forms.{TermsOf}
use Rattle.gates.proofs.Falls.{height}
use Rattle.gates.proofs.work.replace_gates.Given as goal

abbrev pub invariant-loop-lead : goal.invariant-loop-lead
invariant-loop-lead l =
    let c = circuit l.net in
    let cap = capacity l.initial.table in
    Kept net_model l.initial.table l.table × TermsOf c (live l.table) × ((e : Ended NetSet) → Reduces c cap (live l.table) e → Reduces c cap (live l.initial.table) e)

abbrev pub decreases-loop-lead : goal.decreases-loop-lead
decreases-loop-lead l = height (live l.table)
