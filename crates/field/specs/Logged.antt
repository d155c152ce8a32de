-- Products by logarithms: tables of the powers of a code, and of the place of each code among them. Assumes nothing.
use Rattle.std.specs.Prelude.{◌≡◌, ℕ, zero, suc, ◌^◌, ◌<◌, List, slice_index}
use Rattle.algebra.specs.Poly.{along, xtime}
use Rattle.field.specs.declared.shift.base.Base.{Base}
use Rattle.field.specs.declared.shift.base.Base.TheVariants.{X, XPlusOne}

-- g raised to i, modulo p, which has degree k
abbrev pub raised : ℕ → ℕ → ℕ → ℕ → ℕ
raised k p g zero = 1
raised k p g (suc i) = along (xtime k p) (raised k p g i) g

-- the code whose powers are taken: x + 1 or x
abbrev pub code : Base → ℕ
code X = 2
code XPlusOne = 3

-- `powers` has the first 512 powers of a code, and `logs` a place among them for each code but 0
pub record Logged (k p : ℕ) (powers logs : List ℕ) : Type 0 where
  pub base : Base
  pub power : (i : ℕ) → i < 512 → slice_index powers i ≡ raised k p (code base) i
  pub small : (a : ℕ) → slice_index logs a < 256
  pub log : (a : ℕ) → 0 < a → a < 2 ^ k → slice_index powers (slice_index logs a) ≡ a
