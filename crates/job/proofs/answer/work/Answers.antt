use Rattle.std.proofs.Common.{rules}
use Rattle.job.specs.Answers.{unopened, bits}
use Rattle.job.proofs.Direct.{made, stopped}
use Rattle.job.proofs.answer.work.Goals as goal

pub returns-in_err-opened : goal.returns-in_err-opened
returns-in_err-opened c = search (rules, unopened)

pub returns-in_err-count : goal.returns-in_err-count
returns-in_err-count c = search (rules, bits)

pub returns-in_err-len : goal.returns-in_err-len
returns-in_err-len c =
    let refused = stopped _ _ _ _ c.in_ok-opened.ensures _ _ c.in_ok-count.ensures _ (cc) _ _ c.in_err-len.ensures.card in
    search rules

pub returns : goal.returns
returns c = rw (c.modulus.ensures, c.width.ensures, c.front_of.ensures) (made _ _ _ _ c.in_ok-opened.ensures _ _ c.in_ok-count.ensures _ (cc) _ _ c.in_ok-len.ensures.card)
