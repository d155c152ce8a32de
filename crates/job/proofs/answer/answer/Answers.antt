use Rattle.job.proofs.Sole.{shown, one_text}
use Rattle.job.proofs.answer.answer.Goals as goal

pub returns : goal.returns
returns c =
    let p = shown c.args.job.now c.work_on_shelf.result c.work_on_shelf.ensures in
    record { printed = p; only = λ text t. one_text c.args.job.now _ text p t }
