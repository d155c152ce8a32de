-- What the drawers of a shelf hold. Assumes nothing.
use Rattle.std.specs.Prelude.{ℕ, zero, suc, List, [], ◌∷◌, Some, None, Option}
use Rattle.terms.specs.declared.Term.{Term}
use Rattle.terms.specs.declared.nets.NetSet.{NetSet}
use Rattle.bounded.specs.Items.{items}
use Rattle.shelf.specs.declared.store.Drawer.{Drawer}
use Rattle.shelf.specs.declared.store.Form.{Form}

-- the terms of a form, where there is one
abbrev pub terms_of : Option Form → Option (List (Term NetSet))
terms_of (Some f) = Some (items f.terms)
terms_of None = None

-- the terms that a drawer holds, where it is filled
abbrev pub held : Drawer → Option (List (Term NetSet))
held D = terms_of D.form

-- what drawer d holds; nothing past the last drawer
abbrev pub held_at : List Drawer → ℕ → Option (List (Term NetSet))
held_at [] d = None
held_at (D ∷ ds) zero = held D
held_at (D ∷ ds) (suc d) = held_at ds d
