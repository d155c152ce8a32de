use Rattle.job.proofs.parts.sizes.Goals as goal

pub returns-in_err-words : goal.returns-in_err-words
returns-in_err-words c = rw c.from_residual.ensures (λ n k rest l. c.in_err-words.ensures _ rest l)
