use Rattle.std.proofs.Common.{◌≡◌, Some, option_copied, sym, ap, ◌∙◌}
use Rattle.shelf.specs.Formed.{formed}
use Rattle.shelf.specs.Held.{terms_of}
use Rattle.shelf.proofs.Formed.{formed_form}
use Rattle.shelf.proofs.store.Drawer.terms.Goals as goal

pub returns : goal.returns
returns c =
    let filled : c.args.self.now.form ≡ Some c.in_ok-form.form.now = sym c.as_ref.ensures.value ∙ ap option_copied c.in_ok-form.ensures.ok_part in (
      ap terms_of filled ∙ ap Some (sym c.as_slice.ensures),
      formed_form _ (ap formed c.as_slice.ensures ∙ c.in_ok-form.form.now.sorted),
    )
