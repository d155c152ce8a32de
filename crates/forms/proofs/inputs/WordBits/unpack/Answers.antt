use Rattle.forms.proofs.Packed.{words_input}
use Rattle.forms.proofs.inputs.WordBits.unpack.Goals as goal

pub returns : goal.returns
returns c = rw (c.word.ensures, c.word-2.ensures, c.word-3.ensures) (words_input c.args.self.count c.args.self.possible c.args.set c.low-number.result c.low-number.ensures)
