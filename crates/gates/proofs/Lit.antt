-- Whether all nets of a list have bit one, and sums of codes by bits. Assumes nothing.
use Rattle.std.proofs.Common.{◌≡◌, ℕ, Bool, true, false, cond, ◌&&◌, eqb, List, [], ◌∷◌, refl, ◌∙◌, ap₂}
use mathlib.Core.Bool.{xor}
use lib.Bits.{bit_xor, xor_zero_l, xor_zero_r, xor_self}
use Rattle.netlist.specs.Circuits.{Below}
use Rattle.netlist.specs.Meaning.{all_on}
use Rattle.terms.specs.Sets.{among}
use Rattle.terms.proofs.Values.{every_true, every_at, on, on_or}

pub on_among : (n : ℕ) (v : ℕ → Bool) (xs : List ℕ) → Below n xs → on v (λ h. among h xs) n ≡ all_on v xs
on_among n v [] b = every_true n
on_among n v (x ∷ xs) b = on_or n v (λ h. eqb h x) (λ h. among h xs) ∙ ap₂ (λ x y. x && y) (every_at n x v b.0) (on_among n v xs b.1)

-- a sum modulo 2 of bits is a sum of codes
pub xor_cond : (r a b : Bool) (c : ℕ) → bit_xor (cond (r && a) c 0) (cond (r && b) c 0) ≡ cond (r && xor a b) c 0
unfolding xor
xor_cond false a b c = refl
xor_cond true true true c = xor_self c
xor_cond true true false c = xor_zero_r c
xor_cond true false true c = xor_zero_l c
xor_cond true false false c = refl
