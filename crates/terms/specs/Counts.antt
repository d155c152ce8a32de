-- Counting: the nets of a set, the one bits of words, and the number that words make. Assumes nothing.
use Rattle.std.specs.Prelude.{ℕ, zero, suc, ◌+◌, ◌*◌, ◌^◌, Bool, cond, List, [], ◌∷◌, count_ones}
use Rattle.terms.specs.Sets.{holds}
use Rattle.terms.specs.declared.nets.NetSet.{NetSet}

-- how many numbers below n have p
unfoldable pub count : ℕ → (ℕ → Bool) → ℕ
count zero p = 0
count (suc n) p = cond (p n) (suc (count n p)) (count n p)

-- the set of four words
abbrev pub net_set : List ℕ → NetSet
net_set ws = record { words = ws }

-- how many nets s holds
abbrev pub nets_in : NetSet → ℕ
nets_in s = count 256 (holds s)

-- how many bits of the words are one
abbrev pub weight : List ℕ → ℕ
weight [] = 0
weight (x ∷ xs) = count_ones x + weight xs

-- the number that words of k bits make, the first word lowest: its bit g is the bit of net g
abbrev pub rank : ℕ → List ℕ → ℕ
rank k [] = 0
rank k (x ∷ xs) = x + 2 ^ k * rank k xs
