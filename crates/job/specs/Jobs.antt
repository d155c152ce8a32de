-- How a job is taken apart, and which field it is worked over. Assumes nothing.
use Rattle.std.specs.Prelude.{◌≡◌, ℕ, ◌-◌, ◌<◌, ◌≤◌, min, max, List, [], ◌∷◌, ◌++◌, length, Some, None, codes, Option, ◌≢◌, slice_index}
use Rattle.fault.specs.declared.Fault.{Fault}
use Rattle.fault.specs.declared.Fault.TheVariants.{JobTooLong, WrongForm}
use Rattle.algebra.specs.Poly.{Degree, Irreducible}
use Rattle.field.specs.Refusals.{ShiftRefused}
use Rattle.lines.specs.Text.{Line, Tail}
use Rattle.lines.specs.declared.Head.TheVariants.{Words}
use Rattle.netlist.specs.Circuits.{Circuit}
use Rattle.netlist.specs.Refusals.{Accepted, Refused}

-- A job with no field line is its netlist; one with a field line names its polynomial, and the netlist follows.
abbrev pub Parts : List ℕ → Option ℕ → List ℕ → Type 0
Parts job None netlist = (netlist ≡ job) × ((rest : List ℕ) → job ≢ codes "field" ++ rest)
Parts job (Some p) netlist = (rest : List ℕ) × (job ≡ codes "field" ++ rest) × Tail rest 1 (p ∷ []) netlist

-- Why a job is refused before anything else is looked at: it is too long, or its field line is of wrong form.
pub data BadJob (job : List ℕ) : Fault → Type 0 where
  long : 16384 < length job → BadJob job JobTooLong
  form : (rest : List ℕ) → length job ≤ 16384 → job ≡ codes "field" ++ rest → ((vs netlist : List ℕ) → Tail rest 1 vs netlist → ⊥) → BadJob job (WrongForm 1)

-- The field polynomials for words of 2 to 8 bits where a job names none.
abbrev pub default_polynomials : List ℕ
default_polynomials = 7 ∷ 11 ∷ 25 ∷ 37 ∷ 67 ∷ 131 ∷ 283 ∷ []

-- the one for words of k bits
abbrev pub default_polynomial : ℕ → ℕ
default_polynomial k = slice_index default_polynomials (k - 2)

-- There is none for words of k bits.
abbrev pub NoDefault : ℕ → Type 0
NoDefault k = 2 ≤ k → k ≤ 8 → ⊥

-- p is the field polynomial: the one that the job names, else the default for the bits that the netlist's words line gives.
pub data FieldPolynomial (netlist : List ℕ) : Option ℕ → ℕ → Type 0 where
  named : (p : ℕ) → FieldPolynomial netlist (Some p) p
  default : (n k : ℕ) (rest : List ℕ) → Line 0 netlist Words (n ∷ k ∷ []) rest → 2 ≤ k → k ≤ 8 → FieldPolynomial netlist None (default_polynomial k)

-- There is none: the job names none, and the netlist has no words line that gives a number of bits with a default.
pub data NoPolynomial (netlist : List ℕ) : Option ℕ → Type 0 where
  unnamed : ((n k : ℕ) (rest : List ℕ) → Line 0 netlist Words (n ∷ k ∷ []) rest → NoDefault k) → NoPolynomial netlist None

-- n is the number of words that the netlist's words line gives, if it has one, brought into 1 to 3.
abbrev pub WordsGiven : List ℕ → ℕ → Type 0
WordsGiven netlist n = (a b : ℕ) (rest : List ℕ) → Line 0 netlist Words (a ∷ b ∷ []) rest → n ≡ max 1 (min a 3)

-- p makes the field of k bits: it is irreducible, of degree k.
pub record Makes (p k : ℕ) : Type 0 where
  pub degree : Degree k p
  pub narrow : 2 ≤ k
  pub wide : k ≤ 8
  pub irreducible : Irreducible p

-- Why a netlist has no field: no polynomial is named or has a default, and then the netlist is refused whatever sizes are wanted; or the
-- polynomial makes none.
pub data NoField (netlist : List ℕ) (name : Option ℕ) : Fault → Type 0 where
  no_polynomial : {f : Fault} → NoPolynomial netlist name → ((n k : ℕ) → Refused n k netlist f) → NoField netlist name f
  makes_none : {f : Fault} (p : ℕ) → FieldPolynomial netlist name p → ShiftRefused p f → NoField netlist name f

-- What is known of a job before its netlist is read: the field of p, of k bits, the number n of words, and the netlist's text.
pub record Prepared (job : List ℕ) (p k n : ℕ) (netlist : List ℕ) : Type 0 where
  pub short : length job ≤ 16384
  pub name : Option ℕ
  pub parts : Parts job name netlist
  pub polynomial : FieldPolynomial netlist name p
  pub field : Makes p k
  pub words : WordsGiven netlist n
  pub some : 1 ≤ n
  pub few : n ≤ 3

-- The job is the text of circuit c, of n words of k bits, over the field of p.
pub record Opened (job : List ℕ) (p k n : ℕ) (c : Circuit) : Type 0 where
  pub short : length job ≤ 16384
  pub name : Option ℕ
  pub netlist : List ℕ
  pub parts : Parts job name netlist
  pub polynomial : FieldPolynomial netlist name p
  pub field : Makes p k
  pub words : WordsGiven netlist n
  pub accepted : Accepted n k netlist c

-- Why a job cannot be opened: its own form, then its field, then its netlist. With no polynomial, no field is due, and the refusal is the
-- reader's own, whatever numbers of words and bits are wanted.
pub data NotOpened (job : List ℕ) : Fault → Type 0 where
  bad : {f : Fault} → BadJob job f → NotOpened job f
  no_field : {f : Fault} (name : Option ℕ) (netlist : List ℕ) → length job ≤ 16384 → Parts job name netlist → NoPolynomial netlist name
      → ((n k : ℕ) → Refused n k netlist f) → NotOpened job f
  field : {f : Fault} (name : Option ℕ) (netlist : List ℕ) (p : ℕ) → length job ≤ 16384 → Parts job name netlist → FieldPolynomial netlist name p
      → ShiftRefused p f → NotOpened job f
  reader : {f : Fault} (name : Option ℕ) (netlist : List ℕ) (p k n : ℕ) → length job ≤ 16384 → Parts job name netlist → FieldPolynomial netlist name p
      → Makes p k → WordsGiven netlist n → Refused n k netlist f → NotOpened job f
