use Rattle.std.proofs.Common.{◌≡◌, List, drop}
use Rattle.terms.specs.Nets.{net_model}
use Rattle.terms.specs.Lent.{live, capacity, Kept}
use Rattle.terms.specs.Additions.{adding}
use Rattle.terms.specs.declared.Term.{Term}
use Rattle.terms.specs.declared.nets.NetSet.{NetSet}
use Rattle.netlist.specs.Netlists.{circuit}
use Rattle.gates.specs.Reductions.{OutTerms}
use Rattle.gates.proofs.work.add_outs.Given as goal

abbrev pub invariant-loop-i : goal.invariant-loop-i
invariant-loop-i l =
    let cap = capacity l.initial.table in
    Kept net_model l.initial.table l.table
    × ((outs : List (Term NetSet)) → OutTerms 0 (circuit l.net).outs outs → adding net_model cap (drop l.i outs) (live l.table) ≡ adding net_model cap outs (live l.initial.table))
