-- What the working from gates to bits means. Assumes nothing.
use Rattle.std.specs.Prelude.{◌≡◌, ℕ, ◌^◌, ◌<◌, ◌≤◌, Bool, false, List, length, slice_index_or}
use Rattle.terms.specs.Terms.{Falling, Nonzero, Codes, Monos}
use Rattle.terms.specs.Nets.{net_model}
use Rattle.terms.specs.declared.Term.{Term}
use Rattle.terms.specs.declared.nets.NetSet.{NetSet}
use Rattle.netlist.specs.Circuits.{Circuit, WellFormed, inputs, nets}
use Rattle.netlist.specs.Meaning.{bit, output, output_at}
use Rattle.terms.specs.Sets.{Own, Within}
use Rattle.terms.specs.Additions.{Ended, done, full}
use Rattle.gates.specs.Reductions.{Reduces, Worked}
use Rattle.terms.specs.Values.{value_under, bit_at}

-- terms of sets, in falling order, of nets that the circuit drives
pub record TermsOf (c : Circuit) (ts : List (Term NetSet)) : Type 0 where
  pub own : Monos Own ts
  pub falling : Falling net_model ts
  pub nonzero : Nonzero ts
  pub driven : Monos (Within (nets c)) ts
  pub codes : Codes (λ a. a < 2 ^ c.width) ts

-- where a working that began with ts ended: no gate's net is left, and the terms have the value that ts had, with every net at its Boolean value
abbrev pub Keeps : Circuit → List (Term NetSet) → Ended NetSet → Type 0
Keeps c ts (done us) = TermsOf c us × Monos (Within (inputs c)) us × ((ins : List Bool) → length ins ≡ inputs c → value_under (bit c ins) us ≡ value_under (bit c ins) ts)
Keeps c ts (full us) = Unit {0}

-- us is a bit form of the circuit: sets of input nets in falling order, and at every input the sum of the codes whose sets hold only one bits is the word that the gates give
pub record BitForm (c : Circuit) (us : List (Term NetSet)) : Type 0 where
  pub own : Monos Own us
  pub falling : Falling net_model us
  pub nonzero : Nonzero us
  pub no_gate : Monos (Within (inputs c)) us
  pub codes : Codes (λ a. a < 2 ^ c.width) us
  pub right : (ins : List Bool) → length ins ≡ inputs c → value_under (λ g. slice_index_or ins g false) us ≡ output c ins

-- a circuit has one bit form: its meaning fixes the list
abbrev pub OnlyForm : Type 0
OnlyForm = (c : Circuit) (us vs : List (Term NetSet)) → BitForm c us → BitForm c vs → us ≡ vs

-- at input words, a bit form has the value that the gates give there
abbrev pub ValueAtWords : Type 0
ValueAtWords = (c : Circuit) (us : List (Term NetSet)) (xs : List ℕ) → WellFormed c → BitForm c us → length xs ≡ c.words → value_under (bit_at c.width xs) us ≡ output_at c xs

-- what a working that went to its end has found
abbrev pub RightEnd : Circuit → Ended NetSet → Type 0
RightEnd c (done us) = BitForm c us
RightEnd c (full us) = Unit {0}

-- the working ends in e, and in nothing else
abbrev pub OnlyEnd : Circuit → ℕ → Ended NetSet → Type 0
OnlyEnd c cap e = (d : Ended NetSet) → Worked c cap d → d ≡ e

-- what the working ends in is a bit form
abbrev pub ValuesKept : Type 0
ValuesKept = (c : Circuit) (cap : ℕ) (e : Ended NetSet) → WellFormed c → Worked c cap e → RightEnd c e

-- each step keeps the value
abbrev pub StepsKeep : Type 0
StepsKeep = (c : Circuit) (cap : ℕ) (ts : List (Term NetSet)) (e : Ended NetSet) → WellFormed c → TermsOf c ts → Reduces c cap ts e → Keeps c ts e

-- one end for each circuit and number of rows
abbrev pub OneEnd : Type 0
OneEnd = (c : Circuit) (cap : ℕ) (d e : Ended NetSet) → Worked c cap d → Worked c cap e → d ≡ e

-- more rows change nothing
abbrev pub MoreRows : Type 0
MoreRows = (c : Circuit) (cap more : ℕ) (us : List (Term NetSet)) → cap ≤ more → Worked c cap (done us) → Worked c more (done us)

-- some number of rows suffices
abbrev pub EnoughRows : Type 0
EnoughRows = (c : Circuit) → WellFormed c → (cap : ℕ) × (us : List (Term NetSet)) × Worked c cap (done us)

-- the working always ends
abbrev pub AlwaysEnds : Type 0
AlwaysEnds = (c : Circuit) (cap : ℕ) → WellFormed c → (e : Ended NetSet) × Worked c cap e
