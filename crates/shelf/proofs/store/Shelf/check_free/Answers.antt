use Rattle.std.proofs.Common.{ap, ◌∙◌}
use Rattle.std.proofs.lemmas.Result.{err_from_is_err_and}
use Rattle.ledger.specs.Rules.{beyond, filled}
use Rattle.shelf.specs.Held.{terms_of}
use Rattle.shelf.proofs.store.Shelf.check_free.Goals as goal

pub returns-in_err-drawer : goal.returns-in_err-drawer
returns-in_err-drawer g c =
    let d = c.in_err-drawer.ensures in
    let p = err_from_is_err_and c.from_residual.result c.from_residual.ensures.1 in
    rw (p.1, p.2, d.1) (beyond d.0)

pub returns-in-Some : goal.returns-in-Some
returns-in-Some g c = let d = c.in_ok-drawer.ensures in filled _ d.0 (d.1 ∙ ap terms_of c.in-Some.is)
