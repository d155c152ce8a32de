use Rattle.algebra.proofs.Theory.{field_theory}
use Rattle.algebra.proofs.bits_are_sums_of_powers.Goals as goal

pub returns : goal.returns
returns c = λ m l. (field_theory m l).bits
