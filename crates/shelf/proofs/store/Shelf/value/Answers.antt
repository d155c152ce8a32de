use Rattle.std.proofs.Common.{ℕ, refl, ap, ◌∙◌}
use Rattle.std.proofs.lemmas.Result.{err_from_is_err_and}
use Rattle.forms.specs.Inputs.{Width}
use Rattle.terms.specs.Values.{value_under, bit_at}
use Rattle.ledger.specs.Rules.{value_drawer, value_word}
use Rattle.shelf.proofs.Asking.{wide}
use Rattle.shelf.proofs.Promises.{promise}
use Rattle.shelf.proofs.store.Shelf.value.Goals as goal

pub returns-in_err-terms : goal.returns-in_err-terms
returns-in_err-terms g c =
    let p = err_from_is_err_and c.from_residual.result c.from_residual.ensures.1 in
    rw (p.1, p.2) (promise (g.met.F.Field.holds _) c.args.self.now.words.few ((value_drawer _ _ c.in_err-terms.ensures, λ d. refl), λ d. refl))

pub returns-then-not-is_input : goal.returns-then-not-is_input
returns-then-not-is_input g c = promise (g.met.F.Field.holds _) c.args.self.now.words.few ((value_word _ _ _ c.in_ok-terms.ensures.0 c.if-not-is_input.ensures, λ d. refl), λ d. refl)

pub returns : goal.returns
returns g c =
    let w : Width c.width.result = rw c.width.ensures (wide _ (g.met.F.Field.holds _)) in
    promise (g.met.F.Field.holds _) c.args.self.now.words.few (
      record {
        form = _;
        shown = c.in_ok-terms.ensures.0;
        input = c.if-not-is_input.ensures;
        value = c.value.ensures.right w ∙ ap (λ (k : ℕ). value_under (bit_at k c.args.words) c.in_ok-terms.terms.now) c.width.ensures;
      },
      λ d. refl,
    )
