use Rattle.std.proofs.Common.{ℕ}
use Rattle.algebra.proofs.Lawful.{Lawful}
use Rattle.algebra.proofs.Worked.{card_worked}
use Rattle.algebra.proofs.tables_work_out_the_card.Goals as goal

pub returns : goal.returns
returns c = λ m l. let M : Lawful = record { it = m; laws = l } in card_worked M ℕ
