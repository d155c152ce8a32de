use Rattle.std.proofs.Common.{rules, ltb-true, ltb-false}
use Rattle.forms.proofs.Rows.{lead_left, lead_right, lead_left_alone, lead_right_alone}
use Rattle.forms.proofs.differences.leading.Goals as goal

pub returns-in-empty-len1-up : goal.returns-in-empty-len1-up
returns-in-empty-len1-up c = search (lead_right_alone, rules, ltb-true, ltb-false)

pub returns-in-len1-up-empty : goal.returns-in-len1-up-empty
returns-in-len1-up-empty c = search (lead_left_alone, rules, ltb-true, ltb-false)

pub returns-in-len1-up-len1-up : goal.returns-in-len1-up-len1-up
returns-in-len1-up-len1-up c = search (lead_right, rules, ltb-false, c.if-less.ensures)

pub returns-in-len1-up-len1-up-2 : goal.returns-in-len1-up-len1-up-2
returns-in-len1-up-len1-up-2 c = search (lead_left, rules, ltb-false, c.if-less.ensures)
