-- What the drawers hold after one of them is changed, and what is read of one. Assumes nothing.
use Rattle.std.proofs.Common.{◌≡◌, ℕ, zero, suc, ◌<◌, ◌≤◌, List, [], ◌∷◌, length, get_or, set, Some, None, Option, Result, MatchResult, Bor, ok_or, sym, refl, ap, ◌∙◌, subst, arith}
use Rattle.std.specs.Slice.{IsItemAt}
use Rattle.std.proofs.lemmas.Bool.Decides.{nat_tests}
use Rattle.fault.specs.declared.Fault.{Fault}
use Rattle.fault.specs.declared.Fault.TheVariants.{NoSuchDrawer}
use Rattle.terms.specs.declared.Term.{Term}
use Rattle.terms.specs.declared.nets.NetSet.{NetSet}
use Rattle.ledger.specs.Drawers.{Puts}
use Rattle.ledger.specs.Ledgers.{put}
use Rattle.shelf.specs.declared.store.Drawer.{Drawer}
use Rattle.shelf.specs.Held.{held, held_at}

-- drawer d is D now
put_at : (ds : List Drawer) (d : ℕ) (D : Drawer) (e : ℕ) → d < length ds → held_at (set ds d D) e ≡ put (held_at ds) d (held D) e
put_at [] d D e h = absurd (omega arith)
put_at (x ∷ ds) zero D zero h = refl
put_at (x ∷ ds) zero D (suc e) h = grind (arith, nat_tests)
put_at (x ∷ ds) (suc d) D zero h = grind (arith, nat_tests)
put_at (x ∷ ds) (suc d) D (suc e) h = let more : held_at (set ds d D) e ≡ put (held_at ds) d (held D) e = put_at ds d D e (omega arith) in grind (arith, nat_tests)

-- and all else as it was
pub puts : (ds : List Drawer) (d : ℕ) (D : Drawer) (o : Option (List (Term NetSet))) → length ds ≡ 16 → d ≤ 15 → held D ≡ o → Puts (held_at ds) d o (held_at (set ds d D))
puts ds d D o n h e = subst (λ (p : Option (List (Term NetSet))). Puts (held_at ds) d p (held_at (set ds d D))) e (λ k. put_at ds d D k (omega (arith, n)))

-- what is read of drawer d
read_at : (ds : List Drawer) (d : ℕ) (x : Drawer) → d < length ds → held (get_or ds d x) ≡ held_at ds d
read_at [] d x h = absurd (omega arith)
read_at (y ∷ ds) zero x h = refl
read_at (y ∷ ds) (suc d) x h = read_at ds d x (omega arith)

-- the drawer with a number, where there is one
pub drawer_found : (ds : List Drawer) (d : ℕ) (o : Option (Bor Drawer)) (r : Result (Bor Drawer) Fault) → length ds ≡ 16 → IsItemAt ds d o → r ≡ ok_or o NoSuchDrawer
    → MatchResult r (λ D. (d ≤ 15) × (held_at ds d ≡ held D.now)) (λ e. (15 < d) × (e ≡ NoSuchDrawer))
drawer_found ds d (Some D) r n i e = rw e (omega (arith, n, i.3.0), sym (ap held i.1 ∙ read_at ds d D.now i.3.0))
drawer_found ds d None r n i e = rw e (omega (arith, n, i.3), refl)
