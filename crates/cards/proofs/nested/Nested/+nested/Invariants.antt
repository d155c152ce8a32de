use Rattle.std.proofs.Common.{◌+◌, ◌*◌}
use Rattle.cards.proofs.nested.Nested.+nested.Given as goal

abbrev pub decreases-add_held : goal.decreases-add_held
decreases-add_held g l = 2 * l.net + 1

abbrev pub decreases-add_nested : goal.decreases-add_nested
decreases-add_nested g l = 2 * l.p
