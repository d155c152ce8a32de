use Rattle.std.proofs.Common.{refl, rules}
use Rattle.std.proofs.lemmas.Result.{err_from_is_err_and}
use Rattle.ledger.specs.Rules.{withdraw_drawer}
use Rattle.shelf.proofs.Drawers.{puts}
use Rattle.shelf.proofs.Promises.{promise}
use Rattle.shelf.proofs.store.Shelf.withdraw.Goals as goal

pub returns-in_err-count-clause-promise : goal.returns-in_err-count-clause-promise
returns-in_err-count-clause-promise g c =
    let p = err_from_is_err_and c.from_residual.result c.from_residual.ensures.1 in
    rw (p.1, p.2) (promise (g.met.F.Field.holds _) c.args.self.now.words.few (withdraw_drawer _ c.in_err-count.ensures, λ d. refl))

pub returns-clause-promise : goal.returns-clause-promise
returns-clause-promise g c =
    let x = c.in_ok-count.ensures.0 in
    promise (g.met.F.Field.holds _) c.args.self.now.words.few
    (record { form = c.in_ok-count.field-0.now; shown = x; count = refl; held = puts c.args.self.now.drawers c.args.drawer _ _ (search rules) x.number c.clear.ensures })
