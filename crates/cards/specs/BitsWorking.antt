-- The working from a polynomial in the words to its bit form, and what is answered. Assumes nothing.
use Rattle.std.specs.Prelude.{◌≡◌, ℕ, ◌*◌, ◌/◌, ◌%◌, ◌^◌, ◌<◌, ◌≤◌, List, [], length, take, replicate, Ok, Err, Result}
use Rattle.algebra.specs.Field.{FieldData, product}
use Rattle.fault.specs.declared.Fault.{Fault}
use Rattle.fault.specs.declared.Fault.TheVariants.{BitTableFull, TooManyBitTerms}
use Rattle.terms.specs.Nets.{net_model}
use Rattle.terms.specs.Sets.{Within}
use Rattle.terms.specs.Terms.{blank, Table, Monos}
use Rattle.terms.specs.declared.Term.{Term}
use Rattle.terms.specs.declared.nets.NetSet.{NetSet}
use Rattle.convert.specs.Convert.{chosen, Converted, finished, stopped, converting}
use Rattle.convert.specs.Places.{row_held}
use Rattle.convert.specs.declared.FullTable.{FullTable}
use Rattle.cards.specs.Law.{Polynomial, CardOf, BitForm, FormOf}
use Rattle.cards.specs.Sums.{word_sum}
use Rattle.cards.specs.Working.{CardAnswered}

-- the factors of an exponent row of n words: for each word w, rising, and each one bit s of its exponent, rising, the word to the power 2^s
abbrev pub word_factors : FieldData → ℕ → List ℕ → List (List (Term NetSet))
word_factors m n r = chosen (row_held m.width r) (λ p. word_sum m (p / m.width) (p % m.width) m.width) 0 (n * m.width)

-- the working from a polynomial to its bit form, with product tables of `cap` rows and a result table of `rows` rows
abbrev pub bits_working : FieldData → ℕ → ℕ → ℕ → List (Term (List ℕ)) → Converted NetSet
bits_working m n cap rows card = converting net_model (product m) cap rows (word_factors m n) card []

-- why no bit form is answered: a table was full, or the working ended with more than 256 terms
pub data BitsRefused (end : Converted NetSet) : Fault → Type 0 where
  full : (t : FullTable) → end ≡ stopped t → BitsRefused end BitTableFull
  too_many : (us : List (Term NetSet)) → end ≡ finished us → 256 < length us → BitsRefused end TooManyBitTerms

-- the answer to a working that ended in `end`, and the rows of the result table then: the number of terms, at most 256, with the terms, then zero rows; or the refusal, with zero rows only
abbrev pub BitsEnd : Converted NetSet → ℕ → List (Term NetSet) → Result ℕ Fault → Type 0
BitsEnd end count rows (Ok t) = (end ≡ finished (take t rows)) × (t ≤ 256) × Table net_model rows t
BitsEnd end count rows (Err e) = BitsRefused end e × (rows ≡ replicate count (blank net_model))

-- where a number is answered, the sets hold bits of the n words alone
abbrev pub InputBits : FieldData → ℕ → List (Term NetSet) → Result ℕ Fault → Type 0
InputBits m n rows (Ok t) = Monos (Within (n * m.width)) (take t rows)
InputBits m n rows (Err e) = Unit {0}

-- where a number is answered, the result table holds the bit form
abbrev pub FormMade : FieldData → ℕ → List (Term (List ℕ)) → List (Term NetSet) → Result ℕ Fault → Type 0
FormMade m n card rows (Ok t) = FormOf m n card (take t rows)
FormMade m n card rows (Err e) = Unit {0}

-- the conversions undo each other
pub record Inverse (m : FieldData) (n : ℕ) (card : List (Term (List ℕ))) (form : List (Term NetSet)) : Type 0 where
  -- the bit form turned to words is the polynomial again, whatever tables that call has
  pub card_again : (cap count : ℕ) (rows : List (Term (List ℕ))) (t : ℕ) → CardAnswered m n cap count form rows (Ok t) → take t rows ≡ card
  -- the card of a bit form turned to bits is that bit form again
  pub form_again : (bits : List (Term NetSet)) → BitForm m n bits → CardOf m n bits card → form ≡ bits

-- where a number is answered, the result table holds a bit form that the other conversion takes back
abbrev pub Undoes : FieldData → ℕ → List (Term (List ℕ)) → List (Term NetSet) → Result ℕ Fault → Type 0
Undoes m n card rows (Ok t) = Inverse m n card (take t rows)
Undoes m n card rows (Err e) = Unit {0}

-- the answer to a call with product tables of `cap` rows and a result table of `count` rows, which are `rows` then
pub record BitsAnswered (m : FieldData) (n cap count : ℕ) (card : List (Term (List ℕ))) (rows : List (Term NetSet)) (answer : Result ℕ Fault) : Type 0 where
  -- it is that of the working
  pub worked : BitsEnd (bits_working m n cap count card) count rows answer
  -- the sets hold bits of the n words alone
  pub inputs : InputBits m n rows answer
  -- what a polynomial in n words ends in is its bit form
  pub made : Polynomial m n card → FormMade m n card rows answer
  -- and the conversion back gives the polynomial again
  pub inverse : Polynomial m n card → Undoes m n card rows answer
  -- with 2^(n·k) rows in each table the working goes to its end
  pub enough : 2 ^ (n * m.width) ≤ cap → 2 ^ (n * m.width) ≤ count → (form : List (Term NetSet)) × (bits_working m n cap count card ≡ finished form)
  -- a working that ends, ends the same with more rows
  pub more : (cap' count' : ℕ) → cap ≤ cap' → count ≤ count' → (form : List (Term NetSet)) → bits_working m n cap count card ≡ finished form
      → bits_working m n cap' count' card ≡ finished form
