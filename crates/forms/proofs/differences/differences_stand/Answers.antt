use Rattle.forms.proofs.First.{difference_laws}
use Rattle.forms.proofs.differences.differences_stand.Goals as goal

pub returns : goal.returns
returns c = difference_laws
