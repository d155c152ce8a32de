use Rattle.std.proofs.Common.{refl, rules}
use Rattle.std.proofs.lemmas.Result.{err_from_is_err_and}
use Rattle.ledger.specs.Rules.{rows_drawer, rows_bits}
use Rattle.shelf.proofs.Drawers.{puts}
use Rattle.shelf.proofs.Filing.{counted, rows_sorted, rows_filed, row_refused}
use Rattle.shelf.proofs.Promises.{promise}
use Rattle.shelf.proofs.store.Shelf.enter_card.Goals as goal

pub returns-in_err-check_free-clause-promise : goal.returns-in_err-check_free-clause-promise
returns-in_err-check_free-clause-promise g c =
    let p = err_from_is_err_and c.from_residual.result c.from_residual.ensures.1 in
    rw (p.1, p.2) (promise (g.met.F.Field.holds _) c.args.self.now.words.few (rows_drawer _ _ _ _ _ c.in_err-check_free.ensures, λ d. refl))

pub returns-in_err-check_rows-clause-promise : goal.returns-in_err-check_rows-clause-promise
returns-in_err-check_rows-clause-promise g c =
    let p = err_from_is_err_and c.from_residual-in_err-check_rows.result c.from_residual-in_err-check_rows.ensures.1 in
    rw (p.1, p.2) (promise (g.met.F.Field.holds _) c.args.self.now.words.few (row_refused _ _ _ _ _ _ _ _ _ c.in_ok-check_free.ensures c.in_err-check_rows.ensures, λ d. refl))

pub returns-in_err-count-clause-promise : goal.returns-in_err-count-clause-promise
returns-in_err-count-clause-promise g c =
    let p = err_from_is_err_and c.from_residual-in_err-count.result c.from_residual-in_err-count.ensures.1 in
    let w = c.args.self.now.words in
    let a = rw (counted w.count w.some w.few) at c.in_err-count.ensures.bits in
    rw (p.1, p.2) (promise (g.met.F.Field.holds _) w.few (rows_bits _ _ _ _ _ c.in_ok-check_free.ensures c.in_ok-check_rows.ensures a.worked.0, λ d. refl))

pub fill-requires-clause-formed : goal.fill-requires-clause-formed
fill-requires-clause-formed g c =
    let w = c.args.self.now.words in
    let a = rw (counted w.count w.some w.few) at c.in_ok-count.ensures.bits in
    rows_sorted _ _ _ _ _ _ c.in_ok-check_rows.ensures c.in_ok-count.count c.to_bits.new.bits a

pub returns-clause-promise : goal.returns-clause-promise
returns-clause-promise g c =
    let w = c.args.self.now.words in
    let a = rw (counted w.count w.some w.few) at c.in_ok-count.ensures.bits in
    promise (g.met.F.Field.holds _) w.few
    (rows_filed _ _ _ _ _ _ c.in_ok-check_rows.ensures c.in_ok-count.count c.to_bits.new.bits a _ _ _ c.in_ok-check_free.ensures
    (puts c.args.self.now.drawers c.args.drawer _ _ (search rules) c.in_ok-check_free.ensures.number c.fill.ensures))
