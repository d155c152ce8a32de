use Rattle.lines.proofs.Numbers.{not_zero, not_led, not_long}
use Rattle.lines.proofs.number.cut_number.Goals as goal

pub returns-in_err-a : goal.returns-in_err-a
returns-in_err-a c = rw c.from_residual.ensures (λ v rest h. not_zero c.in_err-a.ensures h)

pub returns-then-a-eq0 : goal.returns-then-a-eq0
returns-then-a-eq0 c v rest h = not_led c.in_ok-a.ensures c.if-a-eq0.true c.in-Some.ensures h

pub returns-in-Some-cut_digit-2 : goal.returns-in-Some-cut_digit-2
returns-in-Some-cut_digit-2 c v rest h = not_long c.in_ok-a.ensures c.in-Some.ensures c.in-Some-cut_digit.ensures c.in-Some-cut_digit-2.ensures h
