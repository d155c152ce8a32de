-- What is known of an answer whose error was replaced. Assumes nothing.
use Rattle.std.proofs.Common.{◌≡◌, Ok, Err, Result, sym, subst}
use Rattle.std.specs.Result.{MatchResult, IsErrAnd}
use Rattle.std.proofs.lemmas.Result.{err_from_is_err_and}

pub mapped : {T E D : Type 0} (A : Result T E → Type 0) (B : Result T D → Type 0) (Post : E → D → Type 0) → ((x : T) → A (Ok x) → B (Ok x)) → ((e : E) (d : D) → Post e d → A (Err e) → B (Err d))
    → (r : Result T E) → A r → (s : Result T D) → MatchResult r (λ x. s ≡ Ok x) (λ e. IsErrAnd s (Post e)) → B s
mapped A B Post ok err (Ok x) a s h = subst B (sym h) (ok x a)
mapped A B Post ok err (Err e) a s h = let p = err_from_is_err_and s h in subst B (sym p.1) (err e p.0 p.2 a)
