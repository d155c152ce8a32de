use Rattle.algebra.proofs.Theory.{field_theory}
use Rattle.algebra.proofs.values_fix_the_terms.Goals as goal

pub returns : goal.returns
returns c = λ m l. (field_theory m l).cards.same
