-- What a test of every term of a list says, or of those at its front. Assumes nothing.
use Rattle.std.proofs.Common.{◌≡◌, ℕ, suc, ◌+◌, Bool, true, false, T, MatchBool, IfSome, List, [], ◌∷◌, length, take, sym, ◌∙◌, subst, ⊎_elim, arith}
use Rattle.std.proofs.lemmas.Bool.{cases_Bool, cond-true, cond-false}
use Rattle.std.specs.Bool.{then_some}
use Rattle.std.specs.List.{AllWithin, prefix_len}
use Rattle.terms.specs.Terms.{Codes, Monos}
use Rattle.terms.specs.declared.Term.{Term}

-- the answer true
pub passed : (A B : Type 0) (r : Bool) → MatchBool r A B → T r → A
passed A B true a h = a
passed A B false b h = absurd h

-- what is given where a test holds
pub given : {A : Type 0} (P : A → Type 0) (b : Bool) (x : A) → (T b → P x) → IfSome (then_some b x) P
given P true x h = h tt
given P false x h = tt

-- the terms behind the first
behind : {M : Type 0} (P : Term M → Type 0) (t : Term M) (ts : List (Term M)) → AllWithin P (t ∷ ts) 0 (length (t ∷ ts)) → AllWithin P ts 0 (length ts)
behind P t ts a k d l h = a (suc k) d (omega arith) (omega arith)

pub monos_within : {M : Type 0} (P : M → Type 0) (ts : List (Term M)) → AllWithin (λ t. P t.mono) ts 0 (length ts) → Monos P ts
monos_within P [] a = tt
monos_within P (t ∷ ts) a = (a 0 t (omega arith) (omega arith), monos_within P ts (behind (λ t. P t.mono) t ts a))

pub codes_within : {M : Type 0} (P : ℕ → Type 0) (ts : List (Term M)) → AllWithin (λ t. P t.code) ts 0 (length ts) → Codes P ts
codes_within P [] a = tt
codes_within P (t ∷ ts) a = (a 0 t (omega arith) (omega arith), codes_within P ts (behind (λ t. P t.code) t ts a))

-- the terms before the first that fails
pub front_monos : {M : Type 0} (test : Term M → Bool) (P : M → Type 0) → ((t : Term M) → test t ≡ true → P t.mono) → (ts : List (Term M)) → Monos P (take (prefix_len test ts) ts)
front_monos test P h [] = tt
front_monos test P h (t ∷ ts) =
    let n = prefix_len test ts in
    ⊎_elim
    (λ e. subst (λ i. Monos P (take i (t ∷ ts))) (sym (cond-true (test t) (1 + n) 0 e ∙ (let s : 1 + n ≡ suc n = omega arith in s))) (h t e, front_monos test P h ts))
    (λ e. subst (λ i. Monos P (take i (t ∷ ts))) (sym (cond-false (test t) (1 + n) 0 e)) tt)
    (cases_Bool (test t))
