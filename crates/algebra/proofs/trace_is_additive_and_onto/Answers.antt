use Rattle.algebra.proofs.Theory.{field_theory}
use Rattle.algebra.proofs.trace_is_additive_and_onto.Goals as goal

pub returns : goal.returns
returns c = λ m l. (field_theory m l).traces
