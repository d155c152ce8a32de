-- What products keep of the monomials of two lists of terms. Assumes nothing.
use Rattle.std.proofs.Common.{ℕ, List, [], ◌∷◌}
use Rattle.terms.specs.Kind.{KindModel}
use Rattle.terms.specs.Terms.{Monos}
use Rattle.terms.specs.declared.Term.{Term}
use Rattle.convert.specs.Products.{products, all_products}
use Rattle.convert.proofs.Steps.{monos_append}

module _ {M : Type 0} (k : KindModel M) (P : M → Type 0) (times : (a b : M) → P a → P b → P (k.times a b)) (mul : ℕ → ℕ → ℕ) where
  products_p : (c : ℕ) (m : M) (us : List (Term M)) → P m → Monos P us → Monos P (products k mul c m us)
  products_p c m [] p u = tt
  products_p c m (t ∷ us) p u = (times m t.mono p u.0, products_p c m us p u.1)

  pub all_p : (ts us : List (Term M)) → Monos P ts → Monos P us → Monos P (all_products k mul ts us)
  all_p [] us a u = tt
  all_p (t ∷ ts) us a u = monos_append P (products k mul t.code t.mono us) (all_products k mul ts us) (products_p t.code t.mono us a.0 u) (all_p ts us a.1 u)
