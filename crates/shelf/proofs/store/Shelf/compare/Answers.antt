use Rattle.std.proofs.Common.{refl, ◌∙◌}
use Rattle.std.proofs.lemmas.Result.{err_from_is_err_and}
use Rattle.ledger.specs.Rules.{compare_first, compare_second, compare_first_empty, compare_second_empty}
use Rattle.shelf.proofs.Asking.{wide}
use Rattle.shelf.proofs.Promises.{promise}
use Rattle.shelf.proofs.store.Shelf.compare.Goals as goal

pub returns-in_err-first : goal.returns-in_err-first
returns-in_err-first g c =
    let p = err_from_is_err_and c.from_residual.result c.from_residual.ensures.1 in
    let a = c.in_err-first.ensures in
    rw (p.1, p.2, a.1) (promise (g.met.F.Field.holds _) c.args.self.now.words.few ((compare_first _ _ a.0, λ d. refl), λ d. refl))

pub returns-in_err-second : goal.returns-in_err-second
returns-in_err-second g c =
    let p = err_from_is_err_and c.from_residual-in_err-second.result c.from_residual-in_err-second.ensures.1 in
    let b = c.in_err-second.ensures in
    rw (p.1, p.2, b.1) (promise (g.met.F.Field.holds _) c.args.self.now.words.few ((compare_second _ _ c.in_ok-first.ensures.0 b.0, λ d. refl), λ d. refl))

pub returns-in_err-left : goal.returns-in_err-left
returns-in_err-left g c =
    let p = err_from_is_err_and c.from_residual-in_err-left.result c.from_residual-in_err-left.ensures.1 in
    let a = c.in_ok-first.ensures in
    let b = c.in_ok-second.ensures in
    let none = c.in_err-left.ensures in
    rw (p.1, p.2, none.1) (promise (g.met.F.Field.holds _) c.args.self.now.words.few ((compare_first_empty _ _ a.0 b.0 (a.1 ∙ none.0), λ d. refl), λ d. refl))

pub returns-in_err-right : goal.returns-in_err-right
returns-in_err-right g c =
    let p = err_from_is_err_and c.from_residual-in_err-right.result c.from_residual-in_err-right.ensures.1 in
    let a = c.in_ok-first.ensures in
    let b = c.in_ok-second.ensures in
    let none = c.in_err-right.ensures in
    rw (p.1, p.2, none.1) (promise (g.met.F.Field.holds _) c.args.self.now.words.few ((compare_second_empty _ _ _ a.0 b.0 (a.1 ∙ c.in_ok-left.ensures.0) (b.1 ∙ none.0), λ d. refl), λ d. refl))

pub tell-requires-clause-width : goal.tell-requires-clause-width
tell-requires-clause-width g c = rw c.width.ensures (wide _ (g.met.F.Field.holds _))

pub returns : goal.returns
returns g c =
    let a = c.in_ok-first.ensures in
    let b = c.in_ok-second.ensures in
    let told = rw c.width.ensures at c.tell.ensures in
    promise (g.met.F.Field.holds _) c.args.self.now.words.few (
      record {
        left = c.in_ok-left.left.now;
        right = c.in_ok-right.right.now;
        left_shown = record { number = a.0; filled = a.1 ∙ c.in_ok-left.ensures.0 };
        right_shown = record { number = b.0; filled = b.1 ∙ c.in_ok-right.ensures.0 };
        told = told;
      },
      λ d. refl,
    )
