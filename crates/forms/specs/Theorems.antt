-- What the least difference of two bit forms says of their values. Assumes nothing.
use Rattle.std.specs.Prelude.{◌≡◌, ℕ, ◌*◌, ◌<◌, ◌≤◌, ◌⊎◌, ◌↔◌, List}
use Rattle.terms.specs.Counts.{nets_in, weight, rank}
use Rattle.terms.specs.Forms.{Form}
use Rattle.terms.specs.Sets.{Within}
use Rattle.terms.specs.Terms.{Monos}
use Rattle.terms.specs.Values.{value_under, bit_at}
use Rattle.terms.specs.declared.Term.{Term}
use Rattle.terms.specs.declared.nets.NetSet.{NetSet}
use Rattle.forms.specs.Differences.{LeastDifference}
use Rattle.forms.specs.Inputs.{Width, Input, InputOf}

-- a bit form in n words of k bits: a form whose sets hold bits of the words alone
pub record FormIn (k n : ℕ) (ts : List (Term NetSet)) : Type 0 where
  pub form : Form ts
  pub within : Monos (Within (n * k)) ts

-- two bit forms in up to three words
pub record TwoForms (k n : ℕ) (us vs : List (Term NetSet)) : Type 0 where
  pub width : Width k
  pub few : n ≤ 3
  pub left : FormIn k n us
  pub right : FormIn k n vs

-- the values at the input xs are one
abbrev pub SameAt : ℕ → List (Term NetSet) → List (Term NetSet) → List ℕ → Type 0
SameAt k us vs xs = value_under (bit_at k xs) us ≡ value_under (bit_at k xs) vs

-- x is the first input at which the values differ: of the inputs with the fewest one bits, the one whose words make the lowest number
pub record FirstApart (k n : ℕ) (us vs : List (Term NetSet)) (x : List ℕ) : Type 0 where
  pub input : Input k n x
  pub apart : SameAt k us vs x → ⊥
  pub first : (y : List ℕ) → Input k n y → (SameAt k us vs y → ⊥) → (weight x < weight y) ⊎ ((weight x ≡ weight y) × (rank k x ≤ rank k y))

-- the input of the least difference is the first at which the values differ, and has a one bit for each of its nets; two bit forms are one exactly where the values at all inputs are
pub record DifferenceLaws : Type 0 where
  pub first : (k n : ℕ) (us vs : List (Term NetSet)) → TwoForms k n us vs → (s : NetSet) (x : List ℕ) → LeastDifference us vs s → InputOf k s x → FirstApart k n us vs x × (weight x ≡ nets_in s)
  pub same : (k n : ℕ) (us vs : List (Term NetSet)) → TwoForms k n us vs → (us ≡ vs) ↔ ((x : List ℕ) → Input k n x → SameAt k us vs x)
