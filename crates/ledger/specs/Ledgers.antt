-- The ledger: what stands filed after a list of calls on a shelf just made, by the calls' arguments alone. Assumes nothing.
use Rattle.std.specs.Prelude.{ℕ, suc, cond, List, [], ◌∷◌, Some, None, Option, ◌==◌}
use Rattle.algebra.specs.Field.{FieldData}
use Rattle.fault.specs.declared.Fault.{Fault}
use Rattle.terms.specs.declared.Term.{Term}
use Rattle.netlist.specs.Circuits.{Circuit}
use Rattle.netlist.specs.Refusals as reader
use Rattle.ledger.specs.Filings.{Filing, text, rows, IsForm}
use Rattle.ledger.specs.Rules.{Call, filing, card_filing, withdrawing, comparing, valuing, carding, Refused}

-- an account of the drawers, with another entry at drawer d
abbrev pub put : {A : Type 0} → (ℕ → Option A) → ℕ → Option A → ℕ → Option A
put at d o e = cond (e == d) o (at e)

-- A ledger has a filing, or none, for each drawer.
abbrev pub Ledger : Type 0
Ledger = ℕ → Option Filing

-- that of a shelf just made
abbrev pub no_filings : Ledger
no_filings d = None

-- the refusal of call number i, if it has one, else what is found later
abbrev pub sooner : ℕ → Option Fault → Option (ℕ × Fault) → Option (ℕ × Fault)
sooner i (Some e) o = Some (i, e)
sooner i None o = o

module _ (m : FieldData) (n : ℕ) where
  -- the rules read with a ledger give call c the refusal e
  abbrev pub Due : Ledger → Call → Fault → Type 0
  Due L c e = Refused m n L (IsForm m n) c e

  -- they give it none
  abbrev pub Accepted : Ledger → Call → Type 0
  Accepted L c = (e : Fault) → Due L c e → ⊥

  -- the ledger after a call that is accepted: a text or card rows become their drawer's filing, a drawer withdrawn has none
  pub data Enters (L : Ledger) : Call → Ledger → Type 0 where
    enters_text : (d : ℕ) (bytes : List ℕ) (w : ℕ) (c : Circuit) → reader.Accepted n m.width bytes c → Enters L (filing d bytes w) (put L d (Some (text c)))
    enters_rows : (d : ℕ) (ts : List (Term (List ℕ))) (p s r : ℕ) → Enters L (card_filing d ts p s r) (put L d (Some (rows ts)))
    enters_none : (d : ℕ) → Enters L (withdrawing d) (put L d None)
    compare_leaves : (d b : ℕ) → Enters L (comparing d b) L
    value_leaves : (d : ℕ) (xs : List ℕ) → Enters L (valuing d xs) L
    card_leaves : (d p s c : ℕ) → Enters L (carding d p s c) L

  -- the ledger after a call, with the call's refusal, if it has one; a refused call leaves the ledger
  pub data After (L : Ledger) (c : Call) : Option Fault → Ledger → Type 0 where
    refused : (e : Fault) → Due L c e → After L c (Some e) L
    accepted : (L' : Ledger) → Accepted L c → Enters L c L' → After L c None L'

  -- Going down a list of calls, refused ones too, from ledger L on, the first being number i, ends in ledger L';
  -- o is the first call that is refused, by its number, with its refusal.
  pub data Goes : Ledger → ℕ → List Call → Option (ℕ × Fault) → Ledger → Type 0 where
    done : (L : Ledger) (i : ℕ) → Goes L i [] None L
    call : (L : Ledger) (i : ℕ) (c : Call) (cs : List Call) (f : Option Fault) (o : Option (ℕ × Fault)) (L₁ L' : Ledger) → After L c f L₁
        → Goes L₁ (suc i) cs o L' → Goes L i (c ∷ cs) (sooner i f o) L'

  -- the ledger after a list of calls on a shelf just made
  abbrev pub Led : List Call → Option (ℕ × Fault) → Ledger → Type 0
  Led cs o L = Goes no_filings 0 cs o L
