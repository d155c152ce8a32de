-- Lists of terms as the mathematics has them. Assumes nothing.
use Rattle.std.proofs.Common.{ℕ, List, [], ◌∷◌}
use Rattle.algebra.specs.Terms as A
use Rattle.terms.specs.declared.Term.{Term}

abbrev pub plain : {M : Type 0} → List (Term M) → List (A.Term ℕ M)
plain [] = []
plain (t ∷ ts) = record { code = t.code; key = t.mono } ∷ plain ts

abbrev pub plains : {M : Type 0} → List (List (Term M)) → List (List (A.Term ℕ M))
plains [] = []
plains (f ∷ fs) = plain f ∷ plains fs
