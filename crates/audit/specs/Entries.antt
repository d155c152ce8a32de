-- The calls that entries stand for. Assumes nothing.
use Rattle.std.specs.Prelude.{ℕ, ◌≤◌, min, List, [], ◌∷◌, map, Some, None, Option}
use Rattle.fault.specs.declared.Fault.{Fault}
use Rattle.ledger.specs.Rules.{Call, filing, card_filing, withdrawing, comparing, valuing, carding}
use Rattle.audit.specs.declared.entries.Entry.{Entry}
use Rattle.audit.specs.declared.entries.Entry.TheVariants.{File, FileCard, Withdraw, Compare, Value, Card}

-- How many rows of each table are at hand: the work table, which is the result table of filed card rows too, the product tables of
-- filed card rows, the product tables of cards, and the card table.
pub record Tables : Type 0 where
  pub work : ℕ
  pub bits_first : ℕ
  pub bits_second : ℕ
  pub first : ℕ
  pub second : ℕ
  pub card : ℕ

-- The call of an entry. It is lent as many rows as the entry names, or as are at hand where these are fewer.
abbrev pub call_of : Tables → Entry → Call
call_of T (File d bytes w) = filing d bytes.now (min w T.work)
call_of T (FileCard d ts p s r) = card_filing d ts.now (min p T.bits_first) (min s T.bits_second) (min r T.work)
call_of T (Withdraw d) = withdrawing d
call_of T (Compare d b) = comparing d b
call_of T (Value d xs) = valuing d xs
call_of T (Card d p s c) = carding d (min p T.first) (min s T.second) (min c T.card)

-- the calls of a list
abbrev pub calls_of : Tables → List Entry → List Call
calls_of T es = map (call_of T) es

-- The call that an entry names.
abbrev pub named : Entry → Call
named (File d bytes w) = filing d bytes.now w
named (FileCard d ts p s r) = card_filing d ts.now p s r
named (Withdraw d) = withdrawing d
named (Compare d b) = comparing d b
named (Value d xs) = valuing d xs
named (Card d p s c) = carding d p s c

-- There are as many rows at hand as the entry names.
abbrev pub Fits : Tables → Entry → Type 0
Fits T (File d bytes w) = w ≤ T.work
Fits T (FileCard d ts p s r) = (p ≤ T.bits_first) × (s ≤ T.bits_second) × (r ≤ T.work)
Fits T (Withdraw d) = Unit {0}
Fits T (Compare d b) = Unit {0}
Fits T (Value d xs) = Unit {0}
Fits T (Card d p s c) = (p ≤ T.first) × (s ≤ T.second) × (c ≤ T.card)

-- as each entry names
abbrev pub AllFit : Tables → List Entry → Type 0
AllFit T [] = Unit {0}
AllFit T (e ∷ es) = Fits T e × AllFit T es

-- what was found before, else the refusal of call number i
abbrev pub kept : Option (ℕ × Fault) → ℕ → Option Fault → Option (ℕ × Fault)
kept (Some x) i f = Some x
kept None i (Some e) = Some (i, e)
kept None i None = None

-- tables with so many rows
abbrev pub tables : ℕ → ℕ → ℕ → ℕ → ℕ → ℕ → Tables
tables w p s f t c = record { work = w; bits_first = p; bits_second = s; first = f; second = t; card = c }
