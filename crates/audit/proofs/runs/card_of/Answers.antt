use Rattle.std.proofs.Common.{rules}
use Rattle.audit.proofs.Steps.{steps, same_carding}
use Rattle.audit.proofs.runs.card_of.Goals as goal

pub returns-clause-steps : goal.returns-clause-steps
returns-clause-steps g c = steps _ _ _ _ _ _ _ _ (same_carding c.args.drawer (search rules) (search rules) (search rules)) c.err.ensures.value c.card.ensures.promise
