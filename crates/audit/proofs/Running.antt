-- The ledger along a list of calls. Assumes nothing.
use Rattle.std.proofs.Common.{◌≡◌, ℕ, suc, ◌+◌, ◌<◌, ◌≤◌, List, [], ◌∷◌, ◌++◌, length, get_or, take, Some, None, Option, sym, refl, ap, ◌∙◌, subst, subst₂, add-zero, arith}
use Rattle.std.specs.Option.{option_or, option_zip}
use Rattle.std.proofs.lemmas.List.{map-append, length-map, take_more, length-take-le}
use Rattle.algebra.specs.Field.{FieldData}
use Rattle.fault.specs.declared.Fault.{Fault}
use Rattle.ledger.specs.Ledgers.{Ledger, sooner, After, Goes, done, call}
use Rattle.ledger.specs.Rules.{Call}
use Rattle.shelf.specs.declared.store.Drawer.{Drawer}
use Rattle.shelf.specs.declared.store.Words.{Words}
use Rattle.audit.specs.declared.entries.Entry.{Entry}
use Rattle.audit.specs.declared.tables.LentTables.{LentTables}
use Rattle.audit.specs.Entries.{Tables, tables, call_of, calls_of, kept}
use Rattle.audit.specs.LentTables.{at_hand, SameTables}
use Rattle.audit.specs.Runs.{Steps, Runs}

module _ (m : FieldData) (n : ℕ) where
  last_kept : (i : ℕ) (f : Option Fault) → sooner i f None ≡ kept None (i + 0) f
  last_kept i (Some e) = ap (λ (j : ℕ). Some (j, e)) (sym (add-zero i))
  last_kept i None = refl

  more_kept : (i k : ℕ) (f f' : Option Fault) (o : Option (ℕ × Fault)) → sooner i f (kept o (suc i + k) f') ≡ kept (sooner i f o) (i + suc k) f'
  more_kept i k (Some e) f' o = refl
  more_kept i k None f' o = let z : suc i + k ≡ i + suc k = omega arith in ap (λ (j : ℕ). kept o j f') z

  -- one call more at the end
  goes_push : {L K K' : Ledger} {i : ℕ} {cs : List Call} {o : Option (ℕ × Fault)} {c : Call} {f : Option Fault} → Goes m n L i cs o K → After m n K c f K'
      → Goes m n L i (cs ++ (c ∷ [])) (kept o (i + length cs) f) K'
  goes_push {K' = K'} {c = c} {f = f} (done L i) a = subst (λ (o : Option (ℕ × Fault)). Goes m n L i (c ∷ []) o K') (last_kept i f) (call L i c [] f None K' K' a (done K' (suc i)))
  goes_push {K' = K'} {c = c} {f = f} (call L i c₀ cs f₀ o L₁ K b g) a =
      subst (λ (p : Option (ℕ × Fault)). Goes m n L i (c₀ ∷ (cs ++ (c ∷ []))) p K') (more_kept i (length cs) f₀ f o) (call L i c₀ (cs ++ (c ∷ [])) f₀ (kept o (suc i + length cs) f) L₁ K' b (goes_push g a))

-- as many rows are at hand
same_hand : (t t' : LentTables) → SameTables t t' → at_hand t' ≡ at_hand t
same_hand t t' k = λ i. tables (k.work.rows i) (k.bits_first.rows i) (k.bits_second.rows i) (k.first.rows i) (k.second.rows i) (k.left.rows i)

-- what `or` keeps
or_kept : (o : Option (ℕ × Fault)) (i : ℕ) (f : Option Fault) → option_or o (option_zip (Some i) f) ≡ kept o i f
or_kept (Some x) i f = refl
or_kept None i (Some e) = refl
or_kept None i None = refl

-- one turn of the loop that goes down a list; `model` gives the data of a field
pub run_more : {F : Type 0} (model : F → FieldData) (w w' : Words F) (t t' : LentTables) (es : List Entry) (i : ℕ) (d : Entry) (f : Option Fault) (o o' : Option (ℕ × Fault)) (xs ds bs : List Drawer)
    → w' ≡ w → SameTables t t' → i < length es → Steps (model w'.field) w'.count (call_of (at_hand t') (get_or es i d)) ds bs f → o' ≡ option_or o (option_zip (Some i) f)
    → Runs (model w.field) w.count (calls_of (at_hand t) (take i es)) xs ds o → Runs (model w.field) w.count (calls_of (at_hand t) (take (i + 1) es)) xs bs o'
run_more {F} model w w' t t' es i d f o o' xs ds bs e k lt s q inv L h =
    let s' = subst₂ (λ (v : Words F) (U : Tables). Steps (model v.field) v.count (call_of U (get_or es i d)) ds bs f) e (same_hand t t' k) s in
    let before = inv L h in
    let after = s' before.0 before.2 in
    let cs = calls_of (at_hand t) (take i es) in
    let c = call_of (at_hand t) (get_or es i d) in
    let list : cs ++ (c ∷ []) ≡ calls_of (at_hand t) (take (i + 1) es) = sym (map-append (call_of (at_hand t)) (take i es) (get_or es i d ∷ [])) ∙ ap (calls_of (at_hand t)) (sym (take_more es i d lt)) in
    let long : 0 + length cs ≡ i = let u = length-map (take i es) (call_of (at_hand t)) in let le : i ≤ length es = omega arith in let v = length-take-le i es le in omega (arith, u, v) in
    let run = goes_push (model w.field) w.count before.1 after.1 in (
      after.0,
      subst₂ (λ (ks : List Call) (p : Option (ℕ × Fault)). Goes (model w.field) w.count L 0 ks p after.0) list (ap (λ (j : ℕ). kept o j f) long ∙ sym (q ∙ or_kept o i f)) run,
      after.2,
    )

-- an empty list leaves all as it is
pub run_none : (m : FieldData) (n : ℕ) (ds : List Drawer) → Runs m n [] ds ds None
run_none m n ds = λ L h. (L, done L 0, h)
