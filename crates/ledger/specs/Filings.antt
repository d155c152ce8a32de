-- What is filed in a drawer: the output that it stands for at each input, its bit form and its card. Assumes nothing.
use Rattle.std.specs.Prelude.{◌≡◌, ℕ, List, length, take}
use Rattle.algebra.specs.Field.{FieldData}
use Rattle.terms.specs.Values.{value_under, bit_at}
use Rattle.terms.specs.declared.Term.{Term}
use Rattle.terms.specs.declared.nets.NetSet.{NetSet}
use Rattle.netlist.specs.Circuits.{Circuit, WellFormed}
use Rattle.netlist.specs.Meaning.{output_at}
use Rattle.cards.specs.Law.{IsInput, card_value, BitForm, Polynomial}

-- A filing: the text of a circuit, by the circuit, since each text is that of at most one; or the rows of a card.
pub data Filing : Type 0 where
  text : Circuit → Filing
  rows : List (Term (List ℕ)) → Filing

-- The filed output at an input, which is three numbers, the n input words and then 0s:
-- the word that the circuit's gates give by their Boolean tables, or the value of the card rows.
abbrev pub output : FieldData → ℕ → Filing → List ℕ → ℕ
output m n (text c) xs = output_at c (take n xs)
output m n (rows ts) xs = card_value m ts xs

-- Two filings have the same output at every input.
abbrev pub Agree : FieldData → ℕ → Filing → Filing → Type 0
Agree m n f g = (xs : List ℕ) → IsInput m n xs → output m n f xs ≡ output m n g xs

-- us is the bit form of a filing: it has the filed output at every input, and no other bit form has.
pub record IsForm (m : FieldData) (n : ℕ) (f : Filing) (us : List (Term NetSet)) : Type 0 where
  pub bit_form : BitForm m n us
  pub values : (xs : List ℕ) → IsInput m n xs → value_under (bit_at m.width xs) us ≡ output m n f xs
  pub only : (vs : List (Term NetSet)) → BitForm m n vs → ((xs : List ℕ) → IsInput m n xs → value_under (bit_at m.width xs) vs ≡ output m n f xs) → vs ≡ us

-- ts is the card of a filing: it has the filed output at every input, and no other polynomial has.
pub record IsCard (m : FieldData) (n : ℕ) (f : Filing) (ts : List (Term (List ℕ))) : Type 0 where
  pub polynomial : Polynomial m n ts
  pub values : (xs : List ℕ) → IsInput m n xs → card_value m ts xs ≡ output m n f xs
  pub only : (us : List (Term (List ℕ))) → Polynomial m n us → ((xs : List ℕ) → IsInput m n xs → card_value m us xs ≡ output m n f xs) → us ≡ ts

-- j is the number of terms of the bit form of a filing.
abbrev pub CountOf : FieldData → ℕ → Filing → ℕ → Type 0
CountOf m n f j = (us : List (Term NetSet)) × IsForm m n f us × (j ≡ length us)

-- What may be filed: a well-formed circuit of n words of the field's width, or a polynomial in n words.
abbrev pub Lawful : FieldData → ℕ → Filing → Type 0
Lawful m n (text c) = (c.words ≡ n) × (c.width ≡ m.width) × WellFormed c
Lawful m n (rows ts) = Polynomial m n ts
