use Rattle.std.proofs.Common.{refl}
use Rattle.shelf.proofs.Rows.{bad_row, high_row, good_row, row_kept}
use Rattle.shelf.proofs.store.Words.check_rows.Goals as goal
use Rattle.shelf.proofs.store.Words.check_rows.Goals.{then-not-is_lawful-via-then-not-is_lawful, then-not-is_lawful-via-else-not-is_lawful+then-not-is_below}

pub returns-then-not-is_lawful : goal.returns-then-not-is_lawful
returns-then-not-is_lawful g c =
    let l = c.loop-i.invariant in (
      c.loop-i.i,
      refl,
      elim c.then-not-is_lawful.branch [
        | then-not-is_lawful-via-then-not-is_lawful w ↦ bad_row _ _ _ _ c.order-q.ensures c.of_words-kind.ensures _ _ _ c.loop-i-test.true l.checked w.if-not-is_lawful.ensures
        | then-not-is_lawful-via-else-not-is_lawful+then-not-is_below w ↦ high_row _ _ _ _ c.order-q.ensures c.of_words-kind.ensures _ _ _ c.loop-i-test.true l.checked _ l.row_before w.if-not-is_below.ensures
      ],
    )

pub loop-i-preserved : goal.loop-i-preserved
loop-i-preserved g c =
    let l = c.loop-i.invariant in
    record {
      checked = good_row _ _ _ _ c.order-q.ensures c.of_words-kind.ensures _ _ _ c.loop-i-test.true l.checked c.if-not-is_lawful.ensures _ l.row_before c.if-not-is_below.ensures;
      row_before = row_kept c.args.rows.now c.loop-i.i _;
    }
