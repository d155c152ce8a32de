-- What the call from gates to bits answers. Assumes nothing.
use Rattle.std.specs.Prelude.{◌≡◌, ℕ, ◌<◌, ◌≤◌, List, length, replicate, Ok, Err, Result}
use Rattle.fault.specs.declared.Fault.{Fault}
use Rattle.fault.specs.declared.Fault.TheVariants.{BitTableFull, TooManyBitTerms}
use Rattle.terms.specs.Terms.{blank, padded}
use Rattle.terms.specs.Nets.{net_model}
use Rattle.terms.specs.Additions.{done, full}
use Rattle.terms.specs.declared.Term.{Term}
use Rattle.terms.specs.declared.nets.NetSet.{NetSet}
use Rattle.netlist.specs.Circuits.{Circuit}
use Rattle.gates.specs.Reductions.{Worked}
use Rattle.gates.specs.Forms.{OnlyEnd, BitForm}

-- the bit form us of the circuit was found with cap rows: the working ended in it, and it has at most 256 terms
pub record Found (c : Circuit) (cap : ℕ) (us : List (Term NetSet)) : Type 0 where
  pub worked : Worked c cap (done us)
  pub only : OnlyEnd c cap (done us)
  pub form : BitForm c us
  pub sole : (vs : List (Term NetSet)) → BitForm c vs → vs ≡ us
  pub few : length us ≤ 256

-- why no bit form is answered: an addition of the working found no free row, or the working ended with more than 256 terms
pub data Refused (c : Circuit) (cap : ℕ) : Fault → Type 0 where
  no_row : (us : List (Term NetSet)) → Worked c cap (full us) → OnlyEnd c cap (full us) → Refused c cap BitTableFull
  too_many : (us : List (Term NetSet)) → Worked c cap (done us) → OnlyEnd c cap (done us) → 256 < length us → Refused c cap TooManyBitTerms

-- how many terms the bit form us has that stands in the table, or why none is answered
abbrev pub Reached : Circuit → ℕ → Result ℕ Fault → List (Term NetSet) → Type 0
Reached c cap (Ok n) us = Found c cap us × (n ≡ length us)
Reached c cap (Err e) us = Refused c cap e

-- the answer for a circuit and cap lent rows, and the rows then: the terms of the bit form and zero rows after them, or zero rows only
abbrev pub Answered : Circuit → ℕ → Result ℕ Fault → List (Term NetSet) → Type 0
Answered c cap (Ok n) rows = (us : List (Term NetSet)) × Found c cap us × (n ≡ length us) × (rows ≡ padded net_model cap us)
Answered c cap (Err e) rows = Refused c cap e × (rows ≡ replicate cap (blank net_model))
