use Rattle.std.proofs.Common.{◌≡◌, drop}
use lib.Bits.{bit_xor}
use Rattle.terms.specs.Sets.{holds}
use Rattle.terms.specs.Values.{value_under}
use Rattle.forms.proofs.inputs.sum_within.Given as goal

abbrev pub invariant-loop-term : goal.invariant-loop-term
invariant-loop-term l = bit_xor l.sum (value_under (holds l.input) (drop l.term-index l.terms)) ≡ value_under (holds l.input) l.terms
