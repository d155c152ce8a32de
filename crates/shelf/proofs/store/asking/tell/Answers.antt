use Rattle.shelf.proofs.Asking.{told_apart}
use Rattle.shelf.proofs.store.asking.tell.Goals as goal

pub returns : goal.returns
returns c = told_apart _ _ _ _ _ _ _ c.requires.width c.in-Some.ensures c.input_of-words.ensures c.value-here.ensures c.value-there.ensures
