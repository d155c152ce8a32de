-- The value of terms of net sets where each net has a bit: a sum of codes over square-free monomials. Assumes nothing.
use Rattle.std.specs.Prelude.{ℕ, zero, suc, ◌/◌, ◌%◌, ◌^◌, Bool, true, cond, not, ◌&&◌, ◌||◌, List, ◌==◌, slice_index}
use Rattle.terms.specs.Terms.{value}
use Rattle.terms.specs.Sets.{holds}
use Rattle.terms.specs.declared.Term.{Term}
use Rattle.terms.specs.declared.nets.NetSet.{NetSet}

-- p holds of every number below n
unfoldable pub every : ℕ → (ℕ → Bool) → Bool
every zero p = true
every (suc n) p = p n && every n p

-- each net that s holds has bit one
abbrev pub set_on : (ℕ → Bool) → NetSet → Bool
set_on v s = every 256 (λ g. not (holds s g) || v g)

-- the sum of the codes whose sets hold only one bits
abbrev pub value_under : (ℕ → Bool) → List (Term NetSet) → ℕ
value_under v ts = value (λ c s. cond (set_on v s) c 0) ts

-- the bit that net x has at these words of k bits: bit x % k of word x / k
abbrev pub bit_at : ℕ → List ℕ → ℕ → Bool
bit_at k xs x = slice_index xs (x / k) / 2 ^ (x % k) % 2 == 1
