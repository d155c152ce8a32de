use Rattle.algebra.proofs.Theory.{field_theory}
use Rattle.algebra.proofs.two_powers_are_additive.Goals as goal

pub returns : goal.returns
returns c = λ m l. (field_theory m l).powers.two_power
