use Rattle.std.proofs.Common.{ℕ}
use Rattle.algebra.proofs.Lawful.{Lawful}
use Rattle.algebra.proofs.Carry.{words_law_holds}
use Rattle.algebra.proofs.words_keep_the_value.Goals as goal

pub returns : goal.returns
returns c = λ m l. let M : Lawful = record { it = m; laws = l } in words_law_holds M ℕ
