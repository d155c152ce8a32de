use Rattle.std.proofs.Common.{arith}
use Rattle.std.proofs.lemmas.Grind.{common_steps}
use Rattle.convert.proofs.Steps.{conv_outcome, conv_more}
use Rattle.convert.proofs.working.Conversion.work.Goals as goal

pub returns-in_err-map_err-2-clause-worked : goal.returns-in_err-map_err-2-clause-worked
returns-in_err-map_err-2-clause-worked g c = grind (arith, common_steps, conv_outcome)

pub loop-t-preserved : goal.loop-t-preserved
loop-t-preserved g c = grind (arith, common_steps, conv_more)
