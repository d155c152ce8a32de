use Rattle.std.proofs.Common.{refl, ◌∙◌}
use Rattle.std.proofs.lemmas.Result.{err_from_is_err_and}
use Rattle.ledger.specs.Rules.{card_drawer}
use Rattle.shelf.specs.Held.{held_at}
use Rattle.shelf.proofs.Asking.{drawn}
use Rattle.shelf.proofs.Filing.{counted}
use Rattle.shelf.proofs.Promises.{promise}
use Rattle.shelf.proofs.store.Shelf.card.Goals as goal

pub returns-in_err-terms-clause-promise : goal.returns-in_err-terms-clause-promise
returns-in_err-terms-clause-promise g c =
    let p = err_from_is_err_and c.from_residual.result c.from_residual.ensures.1 in
    rw (p.1, p.2) (promise (g.met.F.Field.holds _) c.args.self.now.words.few ((card_drawer _ _ _ _ c.in_err-terms.ensures, c.clear_tables.ensures.third), λ d. refl))

pub returns-clause-promise : goal.returns-clause-promise
returns-clause-promise g c =
    let w = c.args.self.now.words in
    let at = held_at c.args.self.now.drawers in
    let k = c.clear_tables.auto in
    promise (g.met.F.Field.holds _) w.few
    (drawn _ _ at at _ _ _ _ _ c.in_ok-terms.ensures.0 c.to_words.result c.to_words.new.card (c.to_words.auto.card ∙ k.third) (counted w.count w.some w.few) k.first k.second k.third c.to_words.ensures.card, λ d. refl)
