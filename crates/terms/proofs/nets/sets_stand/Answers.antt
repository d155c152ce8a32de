use Rattle.terms.proofs.Members.{laws_of_sets}
use Rattle.terms.proofs.nets.sets_stand.Goals as goal

pub returns : goal.returns
returns c = laws_of_sets
