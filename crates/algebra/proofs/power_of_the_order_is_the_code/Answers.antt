use Rattle.algebra.proofs.Theory.{field_theory}
use Rattle.algebra.proofs.power_of_the_order_is_the_code.Goals as goal

pub returns : goal.returns
returns c = λ m l. (field_theory m l).powers.fermat
