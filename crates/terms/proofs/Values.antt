-- Whether all nets of a set have bit one, and the value of terms where each net has a bit. Assumes nothing.
use Rattle.std.proofs.Common.{◌≡◌, ℕ, zero, suc, ◌<◌, ◌≤◌, Bool, true, false, cond, not, ◌&&◌, ◌||◌, eqb, List, [], ◌∷◌, sym, refl, ap, ◌∙◌, ap₂, ⊎_elim, not-suc-le-zero, arith}
use lib.Bits.{bit_xor, xor_comm, xor_assoc}
use Rattle.std.proofs.Math.Bool.{and-true}
use Rattle.std.proofs.lemmas.Bool.{and_parts, cases_eq, eqb-true, eq-eqb, ne_eqb}
use Rattle.terms.specs.Nets.{net_model}
use Rattle.terms.specs.Sets.{holds, Within}
use Rattle.terms.specs.Terms.{added, Monos}
use Rattle.terms.specs.Values.{every, set_on, value_under}
use Rattle.terms.specs.declared.Term.{Term}
use Rattle.terms.specs.declared.nets.NetSet.{NetSet}
use Rattle.terms.specs.BothKinds.{net_laws}
use Rattle.terms.proofs.Laws.{any_codes, cond_xor, value_added}

pub every_true : (n : ℕ) → every n (λ _. true) ≡ true
unfolding every
every_true zero = refl
every_true (suc n) = every_true n

pub every_all : (n : ℕ) (p : ℕ → Bool) → ((h : ℕ) → p h ≡ true) → every n p ≡ true
every_all n p e = (λ i. every n (λ h. e h i)) ∙ every_true n

pub every_one : (n : ℕ) (p : ℕ → Bool) → every n p ≡ true → (g : ℕ) → g < n → p g ≡ true
unfolding every
every_one zero p e g l = absurd (omega arith)
every_one (suc n) p e g l =
    let both = and_parts (p n) (every n p) e in
    ⊎_elim (λ q. ap p q ∙ both.0) (λ d. every_one n p both.1 g (omega arith)) (cases_eq g n)

and_four : (a b c d : Bool) → ((a && b) && (c && d)) ≡ ((a && c) && (b && d))
and_four true true c d = refl
and_four true false true d = refl
and_four true false false d = refl
and_four false b c d = refl

every_and : (n : ℕ) (p q : ℕ → Bool) → every n (λ h. p h && q h) ≡ (every n p && every n q)
unfolding every
every_and zero p q = refl
every_and (suc n) p q = ap (λ x. (p n && q n) && x) (every_and n p q) ∙ and_four (p n) (q n) (every n p) (every n q)

pub every_same : (n : ℕ) (p q : ℕ → Bool) → ((h : ℕ) → p h ≡ q h) → every n p ≡ every n q
every_same n p q e = λ i. every n (λ h. e h i)

-- beyond the nets in question nothing is asked
every_low : (n : ℕ) (g : ℕ) (v : ℕ → Bool) → n ≤ g → every n (λ h. not (eqb h g) || v h) ≡ true
unfolding every
every_low zero g v l = refl
every_low (suc n) g v l = rw (ne_eqb n g (λ e. omega arith)) (every_low n g v (omega arith))

pub every_at : (n : ℕ) (g : ℕ) (v : ℕ → Bool) → g < n → every n (λ h. not (eqb h g) || v h) ≡ v g
unfolding every
every_at zero g v l = absurd (not-suc-le-zero l)
every_at (suc n) g v l =
    ⊎_elim
    (λ e. ap₂ (λ x y. x && y) (ap (λ x. not x || v n) (eq-eqb n g e)) (every_low n g v (omega arith)) ∙ and-true (v n) ∙ ap v e)
    (λ d. ap (λ x. (not x || v n) && every n (λ h. not (eqb h g) || v h)) (ne_eqb n g d) ∙ every_at n g v (omega arith))
    (cases_eq n g)

-- ---- sets by their members: `on v a n` says that each net that a has, of those below n, has bit one
abbrev pub on : (ℕ → Bool) → (ℕ → Bool) → ℕ → Bool
on v a n = every n (λ h. not (a h) || v h)

on_or_at : (a b c : Bool) → (not (a || b) || c) ≡ ((not a || c) && (not b || c))
on_or_at true true true = refl
on_or_at true true false = refl
on_or_at true false true = refl
on_or_at true false false = refl
on_or_at false b c = refl

pub on_or : (n : ℕ) (v a b : ℕ → Bool) → on v (λ h. a h || b h) n ≡ (on v a n && on v b n)
on_or n v a b = every_same n (λ h. not (a h || b h) || v h) (λ h. (not (a h) || v h) && (not (b h) || v h)) (λ h. on_or_at (a h) (b h) (v h)) ∙ every_and n (λ h. not (a h) || v h) (λ h. not (b h) || v h)

-- a set is its greatest net and the others
split_at : (s e : Bool) → (e ≡ true → s ≡ true) → s ≡ ((s && not e) || e)
split_at true true f = refl
split_at true false f = refl
split_at false true f = f refl
split_at false false f = refl

pub on_split : (n : ℕ) (v a : ℕ → Bool) (g : ℕ) → g < n → a g ≡ true → on v a n ≡ (on v (λ h. a h && not (eqb h g)) n && v g)
on_split n v a g l e =
    every_same n (λ h. not (a h) || v h) (λ h. not ((a h && not (eqb h g)) || eqb h g) || v h)
    (λ h. ap (λ x. not x || v h) (split_at (a h) (eqb h g) (λ q. ap a (eqb-true h g q) ∙ e)))
    ∙ on_or n v (λ h. a h && not (eqb h g)) (λ h. eqb h g)
    ∙ ap (λ x. on v (λ h. a h && not (eqb h g)) n && x) (every_at n g v l)

-- ---- the value of terms
agree_at : (a x y : Bool) → (a ≡ true → x ≡ y) → (not a || x) ≡ (not a || y)
agree_at true x y f = f refl
agree_at false x y f = refl

-- only the bits of its nets count
pub set_on_agree : (v w : ℕ → Bool) (n : ℕ) → ((i : ℕ) → i < n → v i ≡ w i) → (s : NetSet) → Within n s → set_on v s ≡ set_on w s
set_on_agree v w n a s h = every_same 256 (λ g. not (holds s g) || v g) (λ g. not (holds s g) || w g) (λ g. agree_at (holds s g) (v g) (w g) (λ e. a g (h g e)))

pub value_at_agree : (v w : ℕ → Bool) (n : ℕ) → ((i : ℕ) → i < n → v i ≡ w i) → (ts : List (Term NetSet)) → Monos (Within n) ts → value_under v ts ≡ value_under w ts
value_at_agree v w n a [] h = refl
value_at_agree v w n a (t ∷ ts) h = ap₂ (λ l x. bit_xor (cond l t.code 0) x) (set_on_agree v w n a t.mono h.0) (value_at_agree v w n a ts h.1)

pub xor_turn : (a b c : ℕ) → bit_xor a (bit_xor b c) ≡ bit_xor (bit_xor b a) c
xor_turn a b c = sym (xor_assoc a b c) ∙ ap (λ x. bit_xor x c) (xor_comm a b)

pub value_at_added : (v : ℕ → Bool) (c : ℕ) (m : NetSet) (ts : List (Term NetSet)) → value_under v (added net_model c m ts) ≡ bit_xor (cond (set_on v m) c 0) (value_under v ts)
value_at_added v c m ts = value_added (λ _. Unit {0}) (λ d s. cond (set_on v s) d 0) (λ a b s _ _. cond_xor (set_on v s) a b) net_model net_laws c m tt ts (any_codes ts)
