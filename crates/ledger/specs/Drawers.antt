-- What a call does, by what the drawers hold, whatever that is. Assumes nothing.
use Rattle.std.specs.Prelude.{◌≡◌, ℕ, ◌≤◌, min, List, length, replicate, Some, None, Ok, Err, Option, Result}
use Rattle.algebra.specs.Field.{FieldData}
use Rattle.fault.specs.declared.Fault.{Fault}
use Rattle.terms.specs.Terms.{blank}
use Rattle.terms.specs.Values.{value_under, bit_at}
use Rattle.terms.specs.declared.Term.{Term}
use Rattle.terms.specs.declared.nets.NetSet.{NetSet}
use Rattle.forms.specs.Differences.{LeastDifference}
use Rattle.forms.specs.Inputs.{InputOf}
use Rattle.netlist.specs.Circuits.{Circuit}
use Rattle.netlist.specs.Refusals as reader
use Rattle.gates.specs.Answers as gates
use Rattle.convert.specs.Convert.{finished}
use Rattle.cards.specs.Law.{IsInput, Polynomial, FormOf}
use Rattle.cards.specs.Sums.{card_kind}
use Rattle.cards.specs.Working.{CardAnswered}
use Rattle.cards.specs.BitsWorking.{bits_working}
use Rattle.ledger.specs.declared.Compared.{Compared}
use Rattle.ledger.specs.declared.Compared.TheVariants.{Same, Differ}
use Rattle.ledger.specs.Rules.{Call, filing, card_filing, withdrawing, comparing, valuing, carding, Refused, Free, Shows}
use Rattle.ledger.specs.Ledgers.{put}
use Rattle.ledger.specs.Answers.{Answer, words_of}

-- what each drawer holds: a list of terms, or nothing
abbrev pub Held : Type 0
Held = ℕ → Option (List (Term NetSet))

-- what is held is its own bit form
abbrev pub Itself : List (Term NetSet) → List (Term NetSet) → Type 0
Itself us vs = vs ≡ us

-- every drawer holds what it held
abbrev pub SameHeld : Held → Held → Type 0
SameHeld at at' = (d : ℕ) → at' d ≡ at d

-- drawer d holds o, and every other drawer what it held
abbrev pub Puts : Held → ℕ → Option (List (Term NetSet)) → Held → Type 0
Puts at d o at' = (e : ℕ) → at' e ≡ put at d o e

-- two lists of terms differ: the words answered, of k bits, are the least set in which they do, with the value of each list there
pub record Difference (k : ℕ) (us vs : List (Term NetSet)) (x : ℕ × ℕ × ℕ × ℕ × ℕ) : Type 0 where
  pub set : NetSet
  pub least : LeastDifference us vs set
  pub words : InputOf k set (words_of x)
  pub left : x.3 ≡ value_under (bit_at k (words_of x)) us
  pub right : x.4 ≡ value_under (bit_at k (words_of x)) vs

-- what compare says of two lists of terms
abbrev pub Told : ℕ → List (Term NetSet) → List (Term NetSet) → Compared → Type 0
Told k us vs Same = us ≡ vs
Told k us vs (Differ x) = Difference k us vs x

module _ (m : FieldData) (n : ℕ) (at at' : Held) where
  -- the drawer was free, the text is that of a circuit, and the drawer holds the bit form that the gates' working ends in
  pub record TextFiled (d : ℕ) (bytes : List ℕ) (w j : ℕ) : Type 0 where
    pub free : Free at d
    pub circuit : Circuit
    pub accepted : reader.Accepted n m.width bytes circuit
    pub form : List (Term NetSet)
    pub found : gates.Found circuit w form
    pub count : j ≡ length form
    pub held : Puts at d (Some form) at'

  -- the drawer was free, the rows are a polynomial, and the drawer holds the bit form that the working of the rows ends in
  pub record RowsFiled (d : ℕ) (ts : List (Term (List ℕ))) (p s r j : ℕ) : Type 0 where
    pub free : Free at d
    pub polynomial : Polynomial m n ts
    pub form : List (Term NetSet)
    pub worked : bits_working m n (min p s) r ts ≡ finished form
    pub few : length form ≤ 256
    pub is_form : FormOf m n ts form
    pub count : j ≡ length form
    pub held : Puts at d (Some form) at'

  -- the drawer held a bit form, and holds none
  pub record Withdrawn (d j : ℕ) : Type 0 where
    pub form : List (Term NetSet)
    pub shown : Shows at d form
    pub count : j ≡ length form
    pub held : Puts at d None at'

  -- compare looked at two filled drawers
  pub record Looked (d b : ℕ) (answer : Compared) : Type 0 where
    pub left : List (Term NetSet)
    pub right : List (Term NetSet)
    pub left_shown : Shows at d left
    pub right_shown : Shows at b right
    pub told : Told m.width left right answer

  -- value at an input, in a filled drawer
  pub record Valued (d : ℕ) (xs : List ℕ) (v : ℕ) : Type 0 where
    pub form : List (Term NetSet)
    pub shown : Shows at d form
    pub input : IsInput m n xs
    pub value : v ≡ value_under (bit_at m.width xs) form

  -- A refusal that is due, with every drawer as it was; or P of what is answered.
  abbrev pub Ended : {A : Type 0} → Call → (A → Type 0) → Result A Fault → Type 0
  Ended c P (Ok v) = P v
  Ended c P (Err e) = Refused m n at Itself c e × SameHeld at at'

  -- card of a filled drawer: what the working of the held terms gives, and every row of the card table
  abbrev pub Drawn : ℕ → ℕ → ℕ → ℕ → Result ℕ Fault → List (Term (List ℕ)) → Type 0
  Drawn d p s c (Ok j) table = (us : List (Term NetSet)) × Shows at d us × CardAnswered m n (min p s) c us table (Ok j) × (length table ≡ c)
  Drawn d p s c (Err e) table = Refused m n at Itself (carding d p s c) e × (table ≡ replicate c (blank (card_kind m n)))

  -- what a call does where the drawers hold `at`, and `at'` after it
  abbrev pub Does : (c : Call) → Answer c → Type 0
  Does (filing d bytes w) r = Ended (filing d bytes w) (TextFiled d bytes w) r
  Does (card_filing d ts p s t) r = Ended (card_filing d ts p s t) (RowsFiled d ts p s t) r
  Does (withdrawing d) r = Ended (withdrawing d) (Withdrawn d) r
  Does (comparing d b) r = Ended (comparing d b) (Looked d b) r × SameHeld at at'
  Does (valuing d xs) r = Ended (valuing d xs) (Valued d xs) r × SameHeld at at'
  Does (carding d p s c) a = Drawn d p s c a.0 a.1 × SameHeld at at'
