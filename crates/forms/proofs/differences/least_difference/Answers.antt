use Rattle.forms.proofs.Walk.{walk_apart, walk_same, walk_ends}
use Rattle.forms.proofs.differences.least_difference.Goals as goal
use Rattle.forms.proofs.differences.least_difference.Goals.{then-a-b, else-a-b}

pub loop-set-preserved : goal.loop-set-preserved
loop-set-preserved c =
    let us = c.args.left.now in
    let vs = c.args.right.now in
    let ls = c.loop-set.ls.now in
    let rs = c.loop-set.rs.now in
    let a = c.row_of-a in
    let b = c.row_of-b in
    let ls' = a.result.1.now in
    let rs' = b.result.1.now in
    let best = c.loop-set.best in
    elim c.if-a-b.branch [
      | then-a-b w ↦
          rw (w.best-is, w.fewer.ensures)
          (walk_apart us vs ls rs best c.loop-set.invariant c.in-Some.set c.in-Some.ensures.occurs a.result.0 b.result.0 ls' rs' a.ensures.taken b.ensures.taken w.if-a-b.true)
      | else-a-b w ↦
          rw w.best-is
          (walk_same us vs ls rs best c.loop-set.invariant c.in-Some.set c.in-Some.ensures.occurs a.result.0 b.result.0 ls' rs' a.ensures.taken b.ensures.taken w.if-a-b.false)
    ]

pub returns : goal.returns
returns c =
    let e = c.in_default.ensures in
    walk_ends c.args.left.now c.args.right.now c.requires.left c.requires.right c.loop-set.best (rw (e.0, e.1) at c.loop-set.invariant)
