-- The text of a card. Assumes nothing.
use Rattle.std.specs.Prelude.{ℕ, ◌+◌, max, List, [], ◌∷◌, ◌++◌, length, take, codes, decimal}
use Rattle.std.specs.List.{flat_map}
use Rattle.terms.specs.declared.Term.{Term}

-- numbers, each after one space
abbrev pub spaced : List ℕ → List ℕ
spaced vs = flat_map (λ v. 32 ∷ decimal v) vs

-- the line of a term in n words: its code, then an exponent for each word
abbrev pub term_line : ℕ → Term (List ℕ) → List ℕ
term_line n t = codes "term" ++ spaced (t.code ∷ take n t.mono)

-- the sum of a row's exponents
abbrev pub total : List ℕ → ℕ
total [] = 0
total (e ∷ es) = e + total es

-- the largest sum of a row's exponents, 0 where there is no term
abbrev pub degree : List (Term (List ℕ)) → ℕ
degree [] = 0
degree (t ∷ ts) = max (total t.mono) (degree ts)

-- the first line of a card of n words of k bits over the field of p: its number of rows and its degree too
abbrev pub header_line : ℕ → ℕ → ℕ → ℕ → ℕ → List ℕ
header_line n k p rows degree = codes "card " ++ (decimal n ++ (codes " " ++ (decimal k ++ (codes " " ++ (decimal p ++ (codes " " ++ (decimal rows ++ (codes " " ++ decimal degree))))))))

-- the lines of a card, with a line feed between two lines
abbrev pub card_text : ℕ → ℕ → ℕ → List (Term (List ℕ)) → List ℕ
card_text n k p ts = header_line n k p (length ts) (degree ts) ++ flat_map (λ t. 10 ∷ term_line n t) ts
