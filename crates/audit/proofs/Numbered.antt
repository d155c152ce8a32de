-- Only drawers 0 to 15 come to have a filing. Assumes nothing.
use Rattle.std.proofs.Common.{◌≡◌, ℕ, ◌<◌, ◌≤◌, eqb, ◌⊎◌, List, Some, None, Option, inl, inr, arith}
use Rattle.std.proofs.lemmas.Bool.{cases_lt, cond_both, eqb-true}
use Rattle.algebra.specs.Field.{FieldData}
use Rattle.fault.specs.declared.Fault.{Fault}
use Rattle.fault.specs.declared.Fault.TheVariants.{NoSuchDrawer}
use Rattle.ledger.specs.Filings.{Filing}
use Rattle.ledger.specs.Ledgers.{Ledger, put, Accepted, Enters, enters_text, enters_rows, enters_none, compare_leaves, value_leaves, card_leaves, After, refused, accepted, Goes, done, call, Led}
use Rattle.ledger.specs.Rules.{Call, beyond, file_drawer, rows_drawer, withdraw_drawer}

-- each drawer with a filing is one of the sixteen
abbrev Low : Ledger → Type 0
Low L = (d : ℕ) (f : Filing) → L d ≡ Some f → d ≤ 15

put_low : (L : Ledger) (d : ℕ) (o : Option Filing) → (15 < d → ⊥) → Low L → Low (put L d o)
put_low L d o h low e f p =
    cond_both (eqb e d) o (L e) (λ x. x ≡ Some f → e ≤ 15)
    (λ t _. let same = eqb-true e d t in within same (cases_lt 15 d)) (λ _ q. low e f q) p
  where
    within : e ≡ d → (15 < d) ⊎ (d ≤ 15) → e ≤ 15
    within same (inl x) = absurd (h x)
    within same (inr x) = omega arith

module _ (m : FieldData) (n : ℕ) where
  enters_low : {L L' : Ledger} {c : Call} → Accepted m n L c → Enters m n L c L' → Low L → Low L'
  enters_low {L} free (enters_text d bytes w k a) = put_low L d _ (λ x. free NoSuchDrawer (file_drawer d bytes w (beyond x)))
  enters_low {L} free (enters_rows d ts p s r) = put_low L d _ (λ x. free NoSuchDrawer (rows_drawer d ts p s r (beyond x)))
  enters_low {L} free (enters_none d) = put_low L d None (λ x. free NoSuchDrawer (withdraw_drawer d (beyond x)))
  enters_low free (compare_leaves d b) = λ low. low
  enters_low free (value_leaves d xs) = λ low. low
  enters_low free (card_leaves d p s k) = λ low. low

  after_low : {L L' : Ledger} {c : Call} {o : Option Fault} → After m n L c o L' → Low L → Low L'
  after_low (refused e x) low = low
  after_low (accepted L' free x) low = enters_low free x low

  goes_low : {L L' : Ledger} {i : ℕ} {cs : List Call} {o : Option (ℕ × Fault)} → Goes m n L i cs o L' → Low L → Low L'
  goes_low (done L i) low = low
  goes_low (call L i c cs f o K L' a g) low = goes_low g (after_low a low)

  pub filed_low : {L : Ledger} {cs : List Call} {o : Option (ℕ × Fault)} → Led m n cs o L → (d : ℕ) (f : Filing) → L d ≡ Some f → d ≤ 15
  filed_low g = goes_low g (λ d f p. absurd (cc))
