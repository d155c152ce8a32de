use Rattle.std.proofs.Common.{length, refl, rules}
use Rattle.std.proofs.lemmas.Result.{err_from_is_err_and}
use Rattle.netlist.specs.Netlists.{circuit}
use Rattle.ledger.specs.Rules.{file_drawer, file_reader, file_bits}
use Rattle.shelf.proofs.Drawers.{puts}
use Rattle.shelf.proofs.Filing.{form_sorted, text_filed}
use Rattle.shelf.proofs.Promises.{promise}
use Rattle.shelf.proofs.store.Shelf.enter.Goals as goal

pub returns-in_err-check_free-clause-promise : goal.returns-in_err-check_free-clause-promise
returns-in_err-check_free-clause-promise g c =
    let p = err_from_is_err_and c.from_residual.result c.from_residual.ensures.1 in
    rw (p.1, p.2) (promise (g.met.F.Field.holds _) c.args.self.now.words.few (file_drawer _ _ _ c.in_err-check_free.ensures, λ d. refl))

pub returns-in_err-net-clause-promise : goal.returns-in_err-net-clause-promise
returns-in_err-net-clause-promise g c =
    let p = err_from_is_err_and c.from_residual-in_err-net.result c.from_residual-in_err-net.ensures.1 in
    let r = rw c.width.ensures at c.in_err-net.ensures.right in
    rw (p.1, p.2) (promise (g.met.F.Field.holds _) c.args.self.now.words.few (file_reader _ _ _ c.in_ok-check_free.ensures r, λ d. refl))

pub returns-in_err-count-clause-promise : goal.returns-in_err-count-clause-promise
returns-in_err-count-clause-promise g c =
    let p = err_from_is_err_and c.from_residual-in_err-count.result c.from_residual-in_err-count.ensures.1 in
    let a = rw c.width.ensures at c.in_ok-net.ensures.right in
    rw (p.1, p.2) (promise (g.met.F.Field.holds _) c.args.self.now.words.few (file_bits _ _ _ c.in_ok-check_free.ensures (circuit c.in_ok-net.net) a c.in_err-count.ensures.0, λ d. refl))

pub fill-requires-clause-formed : goal.fill-requires-clause-formed
fill-requires-clause-formed g c = form_sorted (circuit c.in_ok-net.net) (length c.args.work.now) c.in_ok-count.count c.bit_form.new.rows c.in_ok-count.ensures

pub returns-clause-promise : goal.returns-clause-promise
returns-clause-promise g c =
    promise (g.met.F.Field.holds _) c.args.self.now.words.few
    (text_filed (circuit c.in_ok-net.net) (length c.args.work.now) c.in_ok-count.count c.bit_form.new.rows c.in_ok-count.ensures
    _ _ _ _ _ _ _ c.width.ensures c.in_ok-check_free.ensures c.in_ok-net.ensures.right
    (puts c.args.self.now.drawers c.args.drawer _ _ (search rules) c.in_ok-check_free.ensures.number c.fill.ensures))
