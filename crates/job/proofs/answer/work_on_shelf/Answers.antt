use Rattle.std.proofs.Common.{rules}
use Rattle.job.specs.Answers.{unopened}
use Rattle.job.proofs.Working.{was_refused, was_carded, few_rows, was_full}
use Rattle.job.proofs.answer.work_on_shelf.Goals as goal

pub returns-in_err-ready : goal.returns-in_err-ready
returns-in_err-ready c = search (rules, unopened)

pub returns-in-Some : goal.returns-in-Some
returns-in-Some c = was_refused _ _ _ _ _ c.in_ok-ready.ensures _ c.from-words.ensures _ _ _ _ c.file_and_draw-found.ensures _ _ c.in-Some.is

pub returns-in_err-len : goal.returns-in_err-len
returns-in_err-len c =
    let refused = was_full _ _ _ _ _ c.in_ok-ready.ensures _ c.from-words.ensures _ _ _ _ c.file_and_draw-found.ensures c.in_default.is _ c.in_err-len.was in
    search rules

pub front_of-requires : goal.front_of-requires
front_of-requires c =
    let few = few_rows _ _ _ _ _ c.in_ok-ready.ensures _ c.from-words.ensures _ _ _ _ c.file_and_draw-found.ensures c.in_default.is _ c.in_ok-len.was in
    search rules

pub returns : goal.returns
returns c = rw (c.modulus.ensures, c.width.ensures, c.front_of.ensures) (was_carded _ _ _ _ _ c.in_ok-ready.ensures _ c.from-words.ensures _ _ _ _ c.file_and_draw-found.ensures c.in_default.is _ c.in_ok-len.was)
