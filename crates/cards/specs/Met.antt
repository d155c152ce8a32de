-- Shapes that were met. Assumes nothing.
use Rattle.std.specs.Prelude.{◌≡◌, ℕ, ◌*◌, ◌≤◌, List, length}
use Rattle.bounded.specs.Items.{items}
use Rattle.cards.specs.Shapes.{all_rows, EachFits}
use Rattle.cards.specs.declared.shapes.fits.Met.{Met}
use Rattle.cards.specs.declared.shapes.Shape.{Shape}

-- the shapes met
abbrev pub met : Met → List Shape
met f = items f.shapes

-- each has at most `cap` rows, and `rows` is how many all of them have
pub record Sums (k q cap : ℕ) (f : Met) : Type 0 where
  pub each : EachFits k q cap (met f)
  pub rows : f.rows ≡ all_rows k q (met f)
  pub most : f.rows ≤ length (met f) * 16777216
