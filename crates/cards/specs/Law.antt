-- What a card is: the one polynomial in the words with the bit form's value at every input; and what the bit form of a polynomial is. Assumes nothing.
use Rattle.std.specs.Prelude.{◌≡◌, ℕ, ◌*◌, ◌<◌, true, List}
use Rattle.algebra.specs.Codes.{row_power}
use Rattle.algebra.specs.Field.{FieldData, size}
use Rattle.terms.specs.Nets.{net_model}
use Rattle.terms.specs.Terms.{Falling, Nonzero, Codes, Monos, value}
use Rattle.terms.specs.declared.Term.{Term}
use Rattle.terms.specs.declared.nets.NetSet.{NetSet}
use Rattle.terms.specs.Sets.{Own, Within}
use Rattle.terms.specs.Values.{value_under, bit_at}
use Rattle.cards.specs.Sums.{card_kind}

-- an input of n words, in three numbers: each below q, and 0 past word n (the same numbers that an exponent row of n words may hold)
abbrev pub IsInput : FieldData → ℕ → List ℕ → Type 0
IsInput m n xs = (card_kind m n).own xs ≡ true

-- the sum of the codes times the words raised to the rows' exponents; the power 0 of every word is one
abbrev pub card_value : FieldData → List (Term (List ℕ)) → List ℕ → ℕ
card_value m ts xs = value (λ c r. m.times c (row_power m r xs)) ts

-- terms of a bit form in n words: codes below q, and sets of the bits of the words
pub record BitTerms (m : FieldData) (n : ℕ) (bits : List (Term NetSet)) : Type 0 where
  pub codes : Codes (λ c. c < size m) bits
  pub within : Monos (Within (n * m.width)) bits

-- a polynomial in n words: nonzero codes below q, exponents up to q − 1 and 0 past word n, in falling order of the rows
pub record Polynomial (m : FieldData) (n : ℕ) (ts : List (Term (List ℕ))) : Type 0 where
  pub codes : Codes (λ c. c < size m) ts
  pub nonzero : Nonzero ts
  pub rows : Monos (λ r. (card_kind m n).own r ≡ true) ts
  pub falling : Falling (card_kind m n) ts

-- a card has the bit form's value at every input, and no other polynomial has
pub record CardOf (m : FieldData) (n : ℕ) (bits : List (Term NetSet)) (card : List (Term (List ℕ))) : Type 0 where
  pub polynomial : Polynomial m n card
  pub values : (xs : List ℕ) → IsInput m n xs → card_value m card xs ≡ value_under (bit_at m.width xs) bits
  pub only : (p : List (Term (List ℕ))) → Polynomial m n p → ((xs : List ℕ) → IsInput m n xs → card_value m p xs ≡ value_under (bit_at m.width xs) bits) → p ≡ card

-- a bit form in n words (an algebraic normal form with codes as coefficients): nonzero codes below q, sets of the bits of the words, in falling order of the sets
pub record BitForm (m : FieldData) (n : ℕ) (ts : List (Term NetSet)) : Type 0 where
  pub terms : BitTerms m n ts
  pub nonzero : Nonzero ts
  pub sets : Monos Own ts
  pub falling : Falling net_model ts

-- the bit form of a polynomial has its value at every input, and no other bit form has
pub record FormOf (m : FieldData) (n : ℕ) (card : List (Term (List ℕ))) (form : List (Term NetSet)) : Type 0 where
  pub bit_form : BitForm m n form
  pub values : (xs : List ℕ) → IsInput m n xs → value_under (bit_at m.width xs) form ≡ card_value m card xs
  pub only : (p : List (Term NetSet)) → BitForm m n p → ((xs : List ℕ) → IsInput m n xs → value_under (bit_at m.width xs) p ≡ card_value m card xs) → p ≡ form
