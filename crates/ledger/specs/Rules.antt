-- Which call is refused, and with what, by what the drawers are known to hold. Assumes nothing.
use Rattle.std.specs.Prelude.{◌≡◌, ℕ, suc, ◌<◌, ◌≤◌, min, List, length, take, Some, None, Option}
use Rattle.algebra.specs.Codes.{Dual}
use Rattle.algebra.specs.Field.{FieldData}
use Rattle.fault.specs.declared.Fault.{Fault}
use Rattle.fault.specs.declared.Fault.TheVariants.{NoSuchDrawer, DrawerFilled, DrawerEmpty, WordOutOfRange, BadCardRow}
use Rattle.terms.specs.declared.Term.{Term}
use Rattle.terms.specs.declared.nets.NetSet.{NetSet}
use Rattle.netlist.specs.Circuits.{Circuit}
use Rattle.netlist.specs.Refusals as reader
use Rattle.gates.specs.Answers as gates
use Rattle.convert.specs.Convert.{stopped}
use Rattle.convert.specs.declared.FullTable.{FullTable}
use Rattle.cards.specs.Law.{Polynomial, IsInput}
use Rattle.cards.specs.Working.{card_working, card_fault}
use Rattle.cards.specs.BitsWorking.{bits_working, BitsRefused}

-- A call by its arguments; a lent table by the number of its rows.
pub data Call : Type 0 where
  -- drawer, netlist text, work table
  filing : ℕ → List ℕ → ℕ → Call
  -- drawer, card rows, two product tables, result table
  card_filing : ℕ → List (Term (List ℕ)) → ℕ → ℕ → ℕ → Call
  -- drawer
  withdrawing : ℕ → Call
  -- two drawers
  comparing : ℕ → ℕ → Call
  -- drawer, three words
  valuing : ℕ → List ℕ → Call
  -- drawer, two product tables, card table
  carding : ℕ → ℕ → ℕ → ℕ → Call

-- δ i is the dual of bit i of the field.
abbrev pub Duals : FieldData → (ℕ → ℕ) → Type 0
Duals m δ = (i : ℕ) → i < m.width → Dual m i (δ i)

-- Row i, counted from 0, is the first with which the rows stop being a polynomial in n words: its code is 0 or no code of the
-- field, an exponent is q or more or stands past word n and is not 0, or it is not below the row before.
pub record BadRow (m : FieldData) (n : ℕ) (ts : List (Term (List ℕ))) (i : ℕ) : Type 0 where
  pub there : i < length ts
  pub before : Polynomial m n (take i ts)
  pub here : Polynomial m n (take (suc i) ts) → ⊥

-- The rules are written over any account of the drawers: `at d` is what it shows in drawer d. They are read with the ledger, and
-- with the drawers themselves.
module _ {A : Type 0} (at : ℕ → Option A) where
  -- drawer d can be filed into
  pub record Free (d : ℕ) : Type 0 where
    pub number : d ≤ 15
    pub empty : at d ≡ None

  -- or not
  pub data NotFree (d : ℕ) : Fault → Type 0 where
    beyond : 15 < d → NotFree d NoSuchDrawer
    filled : (f : A) → d ≤ 15 → at d ≡ Some f → NotFree d DrawerFilled

  -- drawer d shows f
  pub record Shows (d : ℕ) (f : A) : Type 0 where
    pub number : d ≤ 15
    pub filled : at d ≡ Some f

  -- or nothing
  pub data ShowsNothing (d : ℕ) : Fault → Type 0 where
    beyond : 15 < d → ShowsNothing d NoSuchDrawer
    empty : d ≤ 15 → at d ≡ None → ShowsNothing d DrawerEmpty

-- The rules for n words over the field m, where `Form f us` says that us is the bit form of what is shown.
module _ (m : FieldData) (n : ℕ) {A : Type 0} (at : ℕ → Option A) (Form : A → List (Term NetSet) → Type 0) where
  -- The refusal of a call. Each check comes after those that stand above it.
  pub data Refused : Call → Fault → Type 0 where
    -- file: the drawer; the reader; the working, and the number of terms when it has ended
    file_drawer : {e : Fault} (d : ℕ) (bytes : List ℕ) (w : ℕ) → NotFree at d e → Refused (filing d bytes w) e
    file_reader : {e : Fault} (d : ℕ) (bytes : List ℕ) (w : ℕ) → Free at d → reader.Refused n m.width bytes e → Refused (filing d bytes w) e
    file_bits : {e : Fault} (d : ℕ) (bytes : List ℕ) (w : ℕ) → Free at d → (c : Circuit) → reader.Accepted n m.width bytes c → gates.Refused c w e → Refused (filing d bytes w) e
    -- file-card: the drawer; all rows; the working, and the number of terms when it has ended
    rows_drawer : {e : Fault} (d : ℕ) (ts : List (Term (List ℕ))) (p s r : ℕ) → NotFree at d e → Refused (card_filing d ts p s r) e
    rows_bad : (d : ℕ) (ts : List (Term (List ℕ))) (p s r : ℕ) → Free at d → (i : ℕ) → BadRow m n ts i → Refused (card_filing d ts p s r) (BadCardRow i)
    rows_bits : {e : Fault} (d : ℕ) (ts : List (Term (List ℕ))) (p s r : ℕ) → Free at d → Polynomial m n ts → BitsRefused (bits_working m n (min p s) r ts) e → Refused (card_filing d ts p s r) e
    -- withdraw: the drawer
    withdraw_drawer : {e : Fault} (d : ℕ) → ShowsNothing at d e → Refused (withdrawing d) e
    -- compare: both numbers, then both drawers
    compare_first : (d b : ℕ) → 15 < d → Refused (comparing d b) NoSuchDrawer
    compare_second : (d b : ℕ) → d ≤ 15 → 15 < b → Refused (comparing d b) NoSuchDrawer
    compare_first_empty : (d b : ℕ) → d ≤ 15 → b ≤ 15 → at d ≡ None → Refused (comparing d b) DrawerEmpty
    compare_second_empty : (d b : ℕ) (f : A) → d ≤ 15 → b ≤ 15 → at d ≡ Some f → at b ≡ None → Refused (comparing d b) DrawerEmpty
    -- value: the drawer; the words
    value_drawer : {e : Fault} (d : ℕ) (xs : List ℕ) → ShowsNothing at d e → Refused (valuing d xs) e
    value_word : (d : ℕ) (xs : List ℕ) (f : A) → Shows at d f → (IsInput m n xs → ⊥) → Refused (valuing d xs) WordOutOfRange
    -- card: the drawer; the working
    card_drawer : {e : Fault} (d p s c : ℕ) → ShowsNothing at d e → Refused (carding d p s c) e
    card_full : (d p s c : ℕ) (f : A) → Shows at d f → (us : List (Term NetSet)) → Form f us → (δ : ℕ → ℕ) → Duals m δ
        → (t : FullTable) → card_working m n δ (min p s) c us ≡ stopped t → Refused (carding d p s c) (card_fault t)
