use Rattle.std.proofs.Common.{◌≡◌, drop}
use Rattle.terms.specs.Nets.{net_model}
use Rattle.terms.specs.Lent.{live, capacity, Kept}
use Rattle.terms.specs.Additions.{adding}
use Rattle.gates.specs.Tails.{each}
use Rattle.gates.proofs.work.add_each.Given as goal

abbrev pub invariant-loop-set : goal.invariant-loop-set
invariant-loop-set l =
    let cap = capacity l.initial.table in
    Kept net_model l.initial.table l.table × (adding net_model cap (each l.code (drop l.set-index l.sets)) (live l.table) ≡ adding net_model cap (each l.code l.sets) (live l.initial.table))
