use Rattle.std.proofs.Common.{ℕ, ◌^◌, ◌<◌}
use Rattle.algebra.proofs.Lawful.{Lawful}
use Rattle.algebra.proofs.Worked.{form_worked}
use Rattle.algebra.proofs.tables_work_out_the_bit_form.Goals as goal

pub returns : goal.returns
returns c = λ m l w. let M : Lawful = record { it = m; laws = l } in form_worked M ℕ (λ a. a < 2 ^ w) (λ a b. a < b)
