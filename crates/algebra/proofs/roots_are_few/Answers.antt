use Rattle.algebra.proofs.Theory.{field_theory}
use Rattle.algebra.proofs.roots_are_few.Goals as goal

pub returns : goal.returns
returns c = λ m l. (field_theory m l).roots
