-- Lists of terms whose monomials are a kind's own. Assumes nothing.
use Rattle.std.specs.Prelude.{◌≡◌, true, List, [], ◌∷◌}
use Rattle.std.specs.Coded.{×_prop, Unit-prop}
use Rattle.std.proofs.Math.Bool.{Bool-set}
use Rattle.terms.specs.Kind.{KindModel}
use Rattle.terms.specs.Terms.{Monos}
use Rattle.terms.specs.declared.Term.{Term}

-- every monomial is one of the kind's
abbrev pub Owned : {M : Type 0} → KindModel M → List (Term M) → Type 0
Owned k ts = Monos (λ m. k.own m ≡ true) ts

pub Owned-prop : {M : Type 0} (k : KindModel M) (ts : List (Term M)) → IsProp (Owned k ts)
Owned-prop k [] = Unit-prop
Owned-prop k (t ∷ ts) = ×_prop (Bool-set (k.own t.mono) true) (Owned-prop k ts)
