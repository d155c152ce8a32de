use Rattle.terms.proofs.Members.{laws_of_sets}
use Rattle.gates.proofs.Ends.{steps_keep, values_kept, value_at_words}
use Rattle.gates.proofs.Once.{one_end, more_rows}
use Rattle.gates.proofs.Sole.{only_form}
use Rattle.gates.proofs.Enough.{enough_rows, always_ends}
use Rattle.gates.proofs.working_stands.Goals as goal

pub returns : goal.returns
returns c = record {
  keeps = λ k cap ts e w t r. steps_keep laws_of_sets k cap w ts e r t;
  values = values_kept laws_of_sets;
  words = value_at_words;
  sole = only_form;
  one = one_end laws_of_sets;
  more = more_rows;
  enough = enough_rows;
  ends = always_ends;
}
