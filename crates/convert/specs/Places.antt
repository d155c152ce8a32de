-- The places that an exponent row holds. Assumes nothing.
use Rattle.std.specs.Prelude.{ℕ, ◌/◌, ◌%◌, Bool, ◌&&◌, List, ◌==◌, nat_lt, slice_index}
use Rattle.algebra.specs.Codes.{bit_of}

-- bit p % k of exponent p / k of the row is one, in rows of three exponents
abbrev pub row_held : ℕ → List ℕ → ℕ → Bool
row_held k r p = nat_lt (p / k) 3 && bit_of (slice_index r (p / k)) (p % k) == 1
