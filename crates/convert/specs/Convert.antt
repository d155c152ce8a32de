-- The working from one kind of terms to another, through product tables and a result table of given capacities. Assumes nothing.
use Rattle.std.specs.Prelude.{◌≡◌, ℕ, zero, suc, ◌*◌, Bool, cond, List, [], ◌∷◌, take, drop, replicate, Ok, Err, Result}
use Rattle.terms.specs.Kind.{KindModel}
use Rattle.terms.specs.Terms.{term, blank, Table}
use Rattle.terms.specs.declared.Term.{Term}
use Rattle.terms.specs.Additions.{Ended, done, full, adding}
use Rattle.convert.specs.Products.{all_products}
use Rattle.convert.specs.declared.places.Factors.{Factors}
use Rattle.convert.specs.declared.FullTable.{FullTable}
use Rattle.convert.specs.declared.FullTable.TheVariants.{Product, Outcome}

-- the factor of place p: block p of the sums, each of `width` terms
abbrev pub block : {M : Type 0} → ℕ → List (Term M) → ℕ → List (Term M)
block width sums p = take width (drop (p * width) sums)

-- the factors of the places held, rising, among n places from i on
abbrev pub chosen : {M : Type 0} → (ℕ → Bool) → (ℕ → List (Term M)) → ℕ → ℕ → List (List (Term M))
chosen held f i zero = []
chosen held f i (suc n) = cond (held i) (f i ∷ chosen held f (suc i) n) (chosen held f (suc i) n)

-- the factors of the places held
abbrev pub factors_of : {M : Type 0} → Factors M → (ℕ → Bool) → List (List (Term M))
factors_of f held = chosen held (block f.width f.sums.now) 0 f.places

-- a working goes on where it has not found a full table
abbrev pub then : {M : Type 0} → Ended M → (List (Term M) → Ended M) → Ended M
then (done us) go = go us
then (full us) go = full us

-- it has found a full table
abbrev pub Stopped : {M : Type 0} → Ended M → Type 0
Stopped (done us) = ⊥
Stopped (full us) = Unit {0}

-- what a call answers whose additions end so: done with the terms ts, or full with the terms us
abbrev pub Reached : {M T E : Type 0} → Ended M → List (Term M) → List (Term M) → Result T E → Type 0
Reached end ts us (Ok x) = end ≡ done ts
Reached end ts us (Err x) = end ≡ full us

-- the same where the terms of a full table do not matter
abbrev pub Expanded : {M T E : Type 0} → Ended M → List (Term M) → Result T E → Type 0
Expanded end ts (Ok x) = end ≡ done ts
Expanded end ts (Err x) = Stopped end

-- the first product table, after it was multiplied by each factor in turn
abbrev pub multiplying : {M : Type 0} → KindModel M → (ℕ → ℕ → ℕ) → ℕ → List (List (Term M)) → List (Term M) → Ended M
multiplying k mul cap [] ts = done ts
multiplying k mul cap (f ∷ fs) ts = then (adding k cap (all_products k mul ts f) []) (multiplying k mul cap fs)

-- the same for one source term: its code with the unit, times its factors
abbrev pub expanding : {M : Type 0} → KindModel M → (ℕ → ℕ → ℕ) → ℕ → ℕ → List (List (Term M)) → Ended M
expanding k mul cap c fs = then (adding k cap (term c k.unit ∷ []) []) (multiplying k mul cap fs)

-- how a conversion ended: with the result's terms, or at the first table found full
pub data Converted (M : Type 0) : Type 0 where
  finished : List (Term M) → Converted M
  stopped : FullTable → Converted M

-- what a call answers for it: finished with the terms ts, or which table was full
abbrev pub Worked : {M T : Type 0} → Converted M → List (Term M) → Result T FullTable → Type 0
Worked end ts (Ok x) = end ≡ finished ts
Worked end ts (Err e) = end ≡ stopped e

-- what was added to the result, and then the rest of the working
abbrev pub noted : {M : Type 0} → Ended M → (List (Term M) → Converted M) → Converted M
noted (done rs) go = go rs
noted (full rs) go = stopped Outcome

-- a source term's products are added to the result
abbrev pub joined : {M : Type 0} → KindModel M → ℕ → Ended M → List (Term M) → (List (Term M) → Converted M) → Converted M
joined k rcap (done us) rs go = noted (adding k rcap us rs) go
joined k rcap (full us) rs go = stopped Product

-- each source term in turn
abbrev pub converting : {S M : Type 0} → KindModel M → (ℕ → ℕ → ℕ) → ℕ → ℕ → (S → List (List (Term M))) → List (Term S) → List (Term M) → Converted M
converting k mul cap rcap factors [] rs = finished rs
converting k mul cap rcap factors (s ∷ ss) rs = joined k rcap (expanding k mul cap s.code (factors s.mono)) rs (converting k mul cap rcap factors ss)

-- what a conversion answers, and the result's rows then: the number of terms, with the terms and zero rows; or the table found full, with zero rows only
abbrev pub Answered : {S M : Type 0} → KindModel M → (ℕ → ℕ → ℕ) → ℕ → ℕ → (S → List (List (Term M))) → List (Term S) → List (Term M) → Result ℕ FullTable → Type 0
Answered k mul cap rcap factors ss rows (Ok n) = (converting k mul cap rcap factors ss [] ≡ finished (take n rows)) × Table k rows n
Answered k mul cap rcap factors ss rows (Err e) = (converting k mul cap rcap factors ss [] ≡ stopped e) × (rows ≡ replicate rcap (blank k))
