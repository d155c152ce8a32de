-- Inputs of bit forms: up to three words of k bits, in three numbers. Assumes nothing.
use Rattle.std.specs.Prelude.{◌≡◌, ℕ, ◌*◌, ◌^◌, ◌<◌, ◌≤◌, true, ◌⊎◌, List, [], ◌∷◌, length, slice_index}
use Rattle.terms.specs.Exps.{tops_for}
use Rattle.terms.specs.Numbers.{inside}
use Rattle.terms.specs.Sets.{holds, Within}
use Rattle.terms.specs.Values.{value_under, bit_at}
use Rattle.terms.specs.declared.Term.{Term}
use Rattle.terms.specs.declared.nets.NetSet.{NetSet}

-- a number of bits that a word can have
abbrev pub Width : ℕ → Type 0
Width k = (0 < k) × (k ≤ 16)

-- no such number
abbrev pub NoWidth : ℕ → Type 0
NoWidth k = (k ≡ 0) ⊎ (16 < k)

-- an input of n words of k bits, in three numbers: each below 2^k, and 0 past word n
abbrev pub Input : ℕ → ℕ → List ℕ → Type 0
Input k n xs = inside (tops_for (2 ^ k) n) xs ≡ true

-- c is the value of the terms at the words xs of k bits
pub record ValueIs (k : ℕ) (xs : List ℕ) (ts : List (Term NetSet)) (c : ℕ) : Type 0 where
  pub right : Width k → c ≡ value_under (bit_at k xs) ts
  pub none : NoWidth k → c ≡ 0

-- xs is the input of k-bit words whose one bits are the nets of s: where s holds nets of n words alone, it is an input of n words
pub record InputOf (k : ℕ) (s : NetSet) (xs : List ℕ) : Type 0 where
  pub long : length xs ≡ 3
  pub below : (w : ℕ) → slice_index xs w < 2 ^ k
  pub bits : (g : ℕ) → g < 3 * k → bit_at k xs g ≡ holds s g
  pub input : (n : ℕ) → Within (n * k) s → Input k n xs

-- the same, of every k
pub record InputIs (k : ℕ) (s : NetSet) (xs : List ℕ) : Type 0 where
  pub right : Width k → InputOf k s xs
  pub none : NoWidth k → xs ≡ 0 ∷ (0 ∷ (0 ∷ []))
