-- From gates to bits, one rule a constructor. Assumes nothing.
use Rattle.std.specs.Prelude.{◌≡◌, ℕ, suc, ◌-◌, ◌^◌, ◌≤◌, not, ◌&&◌, ◌||◌, List, [], ◌∷◌, ◌==◌, slice_index_or}
use Rattle.terms.specs.Nets.{net_model}
use Rattle.terms.specs.declared.Term.{Term}
use Rattle.terms.specs.declared.nets.NetSet.{NetSet}
use Rattle.netlist.specs.declared.gate.Gate.TheVariants.{Zero}
use Rattle.netlist.specs.Circuits.{Circuit, inputs}
use Rattle.netlist.specs.Meaning.{tail}
use Rattle.terms.specs.Sets.{holds, Own, Within, Top, among, SetOf}
use Rattle.terms.specs.Additions.{Ended, done, full, adding}

-- code 2^i with the set of output net i, from bit i on
abbrev pub OutTerms : ℕ → List ℕ → List (Term NetSet) → Type 0
OutTerms i [] [] = Unit {0}
OutTerms i [] (t ∷ ts) = ⊥
OutTerms i (x ∷ xs) [] = ⊥
OutTerms i (x ∷ xs) (t ∷ ts) = (t.code ≡ 2 ^ i) × SetOf (x ∷ []) t.mono × OutTerms (suc i) xs ts

-- u is s without g, united with the nets xs
pub record Put (s : NetSet) (g : ℕ) (xs : List ℕ) (u : NetSet) : Type 0 where
  pub own : Own u
  pub members : (h : ℕ) → holds u h ≡ ((holds s h && not (h == g)) || among h xs)

-- code c with the other nets of s and each set of a tail, in order
abbrev pub TailTerms : ℕ → NetSet → ℕ → List (List ℕ) → List (Term NetSet) → Type 0
TailTerms c s g [] [] = Unit {0}
TailTerms c s g [] (t ∷ ts) = ⊥
TailTerms c s g (xs ∷ us) [] = ⊥
TailTerms c s g (xs ∷ us) (t ∷ ts) = (t.code ≡ c) × Put s g xs t.mono × TailTerms c s g us ts

-- What the working ends in, on a table of `cap` rows that holds the given terms.
-- `empty`: no term is left. `bits`: the leading term holds no gate's net. Otherwise the leading term t goes, g being its
-- greatest net, and the tail of g's gate comes: `stops` where one of these additions finds no free row, else `step`.
pub data Reduces (c : Circuit) (cap : ℕ) : List (Term NetSet) → Ended NetSet → Type 0 where
  empty : Reduces c cap [] (done [])
  bits : (t : Term NetSet) (ts : List (Term NetSet)) → Within (inputs c) t.mono → Reduces c cap (t ∷ ts) (done (t ∷ ts))
  stops : (t : Term NetSet) (ts adds us : List (Term NetSet)) (g : ℕ) → Top t.mono g → inputs c ≤ g → TailTerms t.code t.mono g (tail (slice_index_or c.gates (g - inputs c) Zero)) adds →
      adding net_model cap adds ts ≡ full us → Reduces c cap (t ∷ ts) (full us)
  step : (t : Term NetSet) (ts adds us : List (Term NetSet)) (g : ℕ) (e : Ended NetSet) → Top t.mono g → inputs c ≤ g → TailTerms t.code t.mono g (tail (slice_index_or c.gates (g - inputs c) Zero)) adds →
      adding net_model cap adds ts ≡ done us → Reduces c cap us e → Reduces c cap (t ∷ ts) e

-- What the whole working ends in, from the empty table: the output terms are added first, and where each of them finds
-- a row the working goes on with what they make.
pub data Worked (c : Circuit) (cap : ℕ) : Ended NetSet → Type 0 where
  stops : (outs us : List (Term NetSet)) → OutTerms 0 c.outs outs → adding net_model cap outs [] ≡ full us → Worked c cap (full us)
  goes : (outs us : List (Term NetSet)) (e : Ended NetSet) → OutTerms 0 c.outs outs → adding net_model cap outs [] ≡ done us → Reduces c cap us e → Worked c cap e
