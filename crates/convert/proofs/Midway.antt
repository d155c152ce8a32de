-- The product tables while a term is multiplied by its factors. Assumes nothing.
use Rattle.std.proofs.Common.{◌≡◌, ℕ, [], List, ◌∷◌, sym, ap, ◌∙◌}
use Rattle.terms.specs.Kind.{KindModel}
use Rattle.terms.specs.Lent.{live, capacity, Kept}
use Rattle.terms.specs.declared.Term.{Term}
use Rattle.terms.specs.declared.table.TermTable.{TermTable}
use Rattle.terms.specs.Additions.{Ended, done, full, adding}
use Rattle.convert.specs.Owned.{Owned}
use Rattle.convert.specs.Products.{all_products}
use Rattle.convert.specs.Convert.{then, multiplying}
use Rattle.convert.proofs.Underway.{kept_then}

-- a and b are what a₀ and b₀ have become: with the factors that are left a ends as a₀ does with all
pub record Midway {M : Type 0} (k : KindModel M) (mul : ℕ → ℕ → ℕ) (a₀ a b₀ b : TermTable M) (left all : List (List (Term M))) : Type 0 where
  pub first : Kept k a₀ a
  pub second : Kept k b₀ b
  pub own : Owned k (live a)
  pub ends : multiplying k mul (capacity a₀) left (live a) ≡ multiplying k mul (capacity a₀) all (live a₀)

-- one more factor
module _ {M : Type 0} (k : KindModel M) (mul : ℕ → ℕ → ℕ) (a₀ a b₀ b : TermTable M) (f : List (Term M)) (left all : List (List (Term M))) (u : Midway k mul a₀ a b₀ b (f ∷ left) all) where
  factor_ends : (e : Ended M) → adding k (capacity a) (all_products k mul (live a) f) [] ≡ e → then e (multiplying k mul (capacity a₀) left) ≡ multiplying k mul (capacity a₀) all (live a₀)
  factor_ends e q =
      ap (λ x. then x (multiplying k mul (capacity a₀) left)) (sym q)
      ∙ ap (λ n. then (adding k n (all_products k mul (live a) f) []) (multiplying k mul (capacity a₀) left)) u.first.room ∙ u.ends

  pub factor_more : (a' b' : TermTable M) → Kept k a a' → Kept k b b' → adding k (capacity a) (all_products k mul (live a) f) [] ≡ done (live a') → Owned k (live a') → Midway k mul a₀ a' b₀ b' left all
  factor_more a' b' p q e o = record {
    first = kept_then k a₀ a a' u.first p;
    second = kept_then k b₀ b b' u.second q;
    own = o;
    ends = factor_ends (done (live a')) e;
  }

  pub factor_full : (b' : TermTable M) → adding k (capacity a) (all_products k mul (live a) f) [] ≡ full (live b') → multiplying k mul (capacity a₀) all (live a₀) ≡ full (live b')
  factor_full b' e = sym (factor_ends (full (live b')) e)
