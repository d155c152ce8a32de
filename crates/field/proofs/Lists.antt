-- Tables that a loop writes, and lists that it reads from the front. Assumes nothing.
use Rattle.std.proofs.Common.{◌≡◌, ℕ, zero, suc, ◌+◌, ◌<◌, List, ◌∷◌, length, get_or, set, drop, replicate, sym, refl, ◌∙◌, subst, get_or-set_other, get_or-set_same}
use Rattle.std.proofs.lemmas.List.{drop_more}
use native.Mathlib.Decide.{ℕ_discrete}

-- what stands at s after v is put at i
pub set_cases : (P : ℕ → Type 0) (xs : List ℕ) (i v s : ℕ) → i < length xs → (s ≡ i → P v) → P (get_or xs s 0) → P (get_or (set xs i v) s 0)
set_cases P xs i v s h here there =
    elim (ℕ_discrete s i) [
      | yes e ↦ subst (λ k. P (get_or (set xs i v) k 0)) (sym e) (rw get_or-set_same (here e))
      | no n ↦ rw get_or-set_other there
    ]

pub zeros : (n s : ℕ) → ◌≡◌ {A = ℕ} (get_or (replicate n 0) s 0) 0
zeros zero s = refl
zeros (suc n) zero = refl
zeros (suc n) (suc s) = zeros n s

-- the first of what is left from n on, and what is left after it
pub next_of : (xs : List ℕ) (n m v : ℕ) (rest : List ℕ) → n < length xs → drop n xs ≡ v ∷ rest → m ≡ n + 1 → (v ≡ get_or xs n 0) × (rest ≡ drop m xs)
next_of xs n m v rest some left next =
    let split = sym left ∙ drop_more xs n 0 some in
    let tail : rest ≡ drop (n + 1) xs = cc in
    (cc, rw next tail)
