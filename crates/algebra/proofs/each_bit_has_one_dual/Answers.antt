use Rattle.algebra.proofs.Theory.{field_theory}
use Rattle.algebra.proofs.each_bit_has_one_dual.Goals as goal

pub returns : goal.returns
returns c = λ m l. (field_theory m l).duals
