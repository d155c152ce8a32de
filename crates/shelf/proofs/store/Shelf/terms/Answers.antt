use Rattle.std.proofs.Common.{◌∙◌}
use Rattle.std.proofs.lemmas.Result.{err_from_is_err_and, MatchResult-weaker}
use Rattle.ledger.specs.Rules.{beyond, empty}
use Rattle.shelf.proofs.store.Shelf.terms.Goals as goal

pub returns-in_err-drawer : goal.returns-in_err-drawer
returns-in_err-drawer g c =
    let d = c.in_err-drawer.ensures in
    let p = err_from_is_err_and c.from_residual.result c.from_residual.ensures.1 in
    rw (p.1, p.2, d.1) (beyond d.0)

pub returns : goal.returns
returns g c =
    let d = c.in_ok-drawer.ensures in
    MatchResult-weaker c.terms.result c.terms.ensures (λ us h. (record { number = d.0; filled = d.1 ∙ h.0 }, h.1)) (λ e h. rw h.1 (empty d.0 (d.1 ∙ h.0)))
