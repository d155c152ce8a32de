-- The working from a bit form to its card, and what is answered. Assumes nothing.
use Rattle.std.specs.Prelude.{◌≡◌, ℕ, ◌*◌, ◌/◌, ◌%◌, ◌^◌, ◌<◌, ◌≤◌, min, max, true, List, [], take, replicate, is_ok, Ok, Err, Result}
use Rattle.algebra.specs.Codes.{Dual}
use Rattle.algebra.specs.Field.{FieldData, product, size}
use Rattle.fault.specs.declared.Fault.{Fault}
use Rattle.fault.specs.declared.Fault.TheVariants.{ProductTableFull, CardTableFull}
use Rattle.terms.specs.Terms.{blank, Table}
use Rattle.terms.specs.declared.Term.{Term}
use Rattle.terms.specs.declared.nets.NetSet.{NetSet}
use Rattle.convert.specs.Convert.{chosen, Converted, finished, stopped, converting}
use Rattle.terms.specs.Sets.{holds}
use Rattle.convert.specs.declared.FullTable.{FullTable}
use Rattle.convert.specs.declared.FullTable.TheVariants.{Product, Outcome}
use Rattle.cards.specs.Law.{BitTerms, CardOf}
use Rattle.cards.specs.Sums.{bit_sum, card_kind}

-- the number of input words that counts: 1 for a number below 1, 3 for one above 3
abbrev pub word_count : ℕ → ℕ
word_count n = min (max n 1) 3

-- the factors of a net set over n words: for each of the first n · k nets that it holds, rising, the sum of that bit; net p is bit p % k of word p / k, and d i the dual of bit i
abbrev pub bit_factors : FieldData → ℕ → (ℕ → ℕ) → NetSet → List (List (Term (List ℕ)))
bit_factors m n d s = chosen (holds s) (λ p. bit_sum m (p / m.width) (d (p % m.width)) m.width) 0 (n * m.width)

-- the working from a bit form to its card, with product tables of `cap` rows and a card table of `rows` rows
abbrev pub card_working : FieldData → ℕ → (ℕ → ℕ) → ℕ → ℕ → List (Term NetSet) → Converted (List ℕ)
card_working m n d cap rows bits = converting (card_kind m n) (product m) cap rows (bit_factors m n d) bits []

-- the refusal where a table is full
abbrev pub card_fault : FullTable → Fault
card_fault Product = ProductTableFull
card_fault Outcome = CardTableFull

-- the answer to a working that ended in `end`, and the rows of the card table then: the number of terms, with the terms, then zero rows; or the refusal, with zero rows only
abbrev pub CardEnd : FieldData → ℕ → Converted (List ℕ) → ℕ → List (Term (List ℕ)) → Result ℕ Fault → Type 0
CardEnd m n end count rows (Ok t) = (end ≡ finished (take t rows)) × Table (card_kind m n) rows t
CardEnd m n end count rows (Err e) = (t : FullTable) × (end ≡ stopped t) × (e ≡ card_fault t) × (rows ≡ replicate count (blank (card_kind m n)))

-- where a number is answered, the card table holds the card
abbrev pub Made : FieldData → ℕ → List (Term NetSet) → List (Term (List ℕ)) → Result ℕ Fault → Type 0
Made m n bits rows (Ok t) = CardOf m n bits (take t rows)
Made m n bits rows (Err e) = Unit {0}

-- the answer to a call with product tables of `cap` rows and a card table of `count` rows, which are `rows` then
pub record CardAnswered (m : FieldData) (n cap count : ℕ) (bits : List (Term NetSet)) (rows : List (Term (List ℕ))) (answer : Result ℕ Fault) : Type 0 where
  -- it is that of the working with the duals of the field's bits
  pub dual : ℕ → ℕ
  pub duals : (i : ℕ) → i < m.width → Dual m i (dual i)
  pub worked : CardEnd m n (card_working m n dual cap count bits) count rows answer
  -- what a bit form in n words ends in is its card
  pub made : BitTerms m n bits → Made m n bits rows answer
  -- q^n rows suffice in each table
  pub enough : size m ^ n ≤ cap → size m ^ n ≤ count → is_ok answer ≡ true
  -- a working that ends, ends the same with more rows
  pub more : (cap' count' : ℕ) → cap ≤ cap' → count ≤ count' → (card : List (Term (List ℕ))) → card_working m n dual cap count bits ≡ finished card
      → card_working m n dual cap' count' bits ≡ finished card
