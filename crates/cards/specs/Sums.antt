-- A bit of a word as a sum of powers of the word, and a power of a word as a sum of its bits. Assumes nothing.
use Rattle.std.specs.Prelude.{◌≡◌, ℕ, zero, suc, ◌+◌, ◌*◌, ◌/◌, ◌%◌, ◌^◌, ◌<◌, true, List, [], ◌∷◌, ◌++◌, length, slice_index, slice_index_or}
use Rattle.algebra.specs.Codes.{power, Dual}
use Rattle.algebra.specs.Field.{FieldData, size}
use Rattle.algebra.specs.Ops.{at_row}
use Rattle.terms.specs.Exps.{exp_model, tops_for}
use Rattle.terms.specs.Kind.{KindModel}
use Rattle.terms.specs.Nets.{net_model}
use Rattle.terms.specs.Terms.{term, Monos}
use Rattle.terms.specs.declared.Term.{Term}
use Rattle.terms.specs.declared.nets.NetSet.{NetSet}

-- f 0, f 1, … f (n − 1)
abbrev pub listed : {M : Type 0} → (ℕ → Term M) → ℕ → List (Term M)
listed f zero = []
listed f (suc n) = listed f n ++ (f n ∷ [])

-- term j of the sum for a bit of word w with the dual δ: δ^(2^j), with the word to the power 2^j
abbrev pub bit_term : FieldData → ℕ → ℕ → ℕ → Term (List ℕ)
bit_term m w δ j = term (power m δ (2 ^ j)) (at_row 3 w (2 ^ j))

-- the first n terms of that sum, j rising
abbrev pub bit_sum : FieldData → ℕ → ℕ → ℕ → List (Term (List ℕ))
bit_sum m w δ n = listed (bit_term m w δ) n

-- term t of the sums of all places, k terms each: place p is bit p % k of word p / k, and d i the dual of bit i
abbrev pub sums_term : FieldData → (ℕ → ℕ) → ℕ → Term (List ℕ)
sums_term m d t = bit_term m (t / m.width / m.width) (d (t / m.width % m.width)) (t % m.width)

-- the code x to the powers 1, 2, 4, …
abbrev pub Squares : FieldData → ℕ → List ℕ → Type 0
Squares m x row = (j : ℕ) → j < 8 → slice_index row j ≡ power m x (2 ^ j)

-- in row i, the dual of bit i to the powers 1, 2, 4, …
pub record DualSquares (m : FieldData) (rows : List (List ℕ)) : Type 0 where
  pub dual : ℕ → ℕ
  pub duals : (i : ℕ) → i < m.width → Dual m i (dual i)
  pub powers : (i j : ℕ) → i < m.width → j < 8 → slice_index (slice_index_or rows i []) j ≡ power m (dual i) (2 ^ j)

-- the set of net p alone, one of the first 64
abbrev pub single_net : ℕ → NetSet
single_net p = record { words = 2 ^ p ∷ (0 ∷ (0 ∷ (0 ∷ []))) }

-- term i of the sum for word w to the power 2^s: the code 2^i to that power, with bit i of the word
abbrev pub word_term : FieldData → ℕ → ℕ → ℕ → Term NetSet
word_term m w s i = term (power m (2 ^ i) (2 ^ s)) (single_net (w * m.width + i))

-- the first n terms of that sum, i rising
abbrev pub word_sum : FieldData → ℕ → ℕ → ℕ → List (Term NetSet)
word_sum m w s n = listed (word_term m w s) n

-- term t of the sums of all places, k terms each: place p is word p / k to the power 2^(p % k)
abbrev pub word_sums_term : FieldData → ℕ → Term NetSet
word_sums_term m t = word_term m (t / m.width / m.width) (t / m.width % m.width) (t % m.width)

-- the exponent rows of n words: exponents up to q − 1, and 0 past word n
abbrev pub card_kind : FieldData → ℕ → KindModel (List ℕ)
card_kind m n = exp_model (tops_for (size m) n)

-- the sums of the bits of n words, with the duals
pub record BitSums (m : FieldData) (n : ℕ) (sums : List (Term (List ℕ))) : Type 0 where
  pub dual : ℕ → ℕ
  pub duals : (i : ℕ) → i < m.width → Dual m i (dual i)
  pub count : length sums ≡ 192
  pub terms : (t : ℕ) → t < n * m.width * m.width → (x : Term (List ℕ)) → slice_index_or sums t x ≡ sums_term m dual t
  pub own : Monos (λ r. (card_kind m n).own r ≡ true) sums

-- the sums of the powers of n words
pub record WordSums (m : FieldData) (n : ℕ) (sums : List (Term NetSet)) : Type 0 where
  pub count : length sums ≡ 192
  pub terms : (t : ℕ) → t < n * m.width * m.width → (x : Term NetSet) → slice_index_or sums t x ≡ word_sums_term m t
  pub own : Monos (λ s. net_model.own s ≡ true) sums

-- in row i, the code 2^i to the powers 1, 2, 4, …
abbrev pub BitSquares : FieldData → List (List ℕ) → Type 0
BitSquares m rows = (i j : ℕ) → i < m.width → j < 8 → slice_index (slice_index_or rows i []) j ≡ power m (2 ^ i) (2 ^ j)
