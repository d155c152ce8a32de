use Rattle.std.proofs.Common.{rules, ltb-true}
use Rattle.forms.proofs.Rows.{row_here, row_past, row_below}
use Rattle.forms.proofs.differences.row_of.Goals as goal
use Rattle.forms.proofs.differences.row_of.Goals.{in_default-via-then-terms-lt1, in_default-via-in-len1-up+else-not-less}

pub returns-in-len1-up : goal.returns-in-len1-up
returns-in-len1-up c = search (row_here, rules, c.if-not-less.ensures)

pub returns-in_default : goal.returns-in_default
returns-in_default c =
    elim c.in_default.branch [
      | in_default-via-then-terms-lt1 w ↦ search (row_past, rules, ltb-true)
      | in_default-via-in-len1-up+else-not-less w ↦ search (row_below, rules, w.if-not-less.ensures)
    ]
