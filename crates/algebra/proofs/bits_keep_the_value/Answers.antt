use Rattle.std.proofs.Common.{ℕ, ◌^◌, ◌<◌}
use Rattle.algebra.proofs.Lawful.{Lawful}
use Rattle.algebra.proofs.Carry.{bits_law_holds}
use Rattle.algebra.proofs.bits_keep_the_value.Goals as goal

pub returns : goal.returns
returns c = λ m l w. let M : Lawful = record { it = m; laws = l } in bits_law_holds M ℕ (λ a. a < 2 ^ w)
