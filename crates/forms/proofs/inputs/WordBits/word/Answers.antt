use Rattle.forms.proofs.Packed.{masked}
use Rattle.forms.proofs.inputs.WordBits.word.Goals as goal

pub returns : goal.returns
returns c = masked c.args.self.count _ c.args.self.possible.1
