use Rattle.algebra.proofs.Theory.{field_theory}
use Rattle.algebra.proofs.zero_polynomial_has_no_term.Goals as goal

pub returns : goal.returns
returns c = λ m l. (field_theory m l).cards.empty
