-- Additive maps of codes by their values at the codes 2^i, and the signature of a code. Assumes nothing.
use Rattle.std.specs.Prelude.{ℕ, ◌^◌, cond, List, ◌==◌, slice_index}
use Rattle.algebra.specs.Field.{FieldData, product}
use Rattle.algebra.specs.Codes.{bit_of, code_sum, trace}

-- the sum of the columns at the one bits of x
abbrev pub combined : FieldData → List ℕ → ℕ → ℕ
combined m columns x = code_sum m m.width (λ i. cond (bit_of x i == 1) (slice_index columns i) 0)

-- bit j says whether the trace of d·2^j is one
abbrev pub signature : FieldData → ℕ → ℕ
signature m d = code_sum m m.width (λ j. cond (trace m (product m d (2 ^ j)) == m.one) (2 ^ j) 0)
