-- Each list of calls leads to one ledger, with one first refusal. Assumes nothing.
use Rattle.std.proofs.Common.{◌≡◌, ℕ, suc, List, Some, Option, refl, ap, subst, ap₂}
use Rattle.algebra.specs.Field.{FieldData, FieldLaws}
use Rattle.fault.specs.declared.Fault.{Fault}
use Rattle.netlist.specs.Circuits.{Circuit}
use Rattle.netlist.proofs.Unique.{one_circuit}
use Rattle.ledger.specs.Filings.{text, IsForm}
use Rattle.ledger.specs.Rules.{Call}
use Rattle.ledger.specs.Ledgers.{Ledger, put, sooner, Enters, enters_text, enters_rows, enters_none, compare_leaves, value_leaves, card_leaves, After, refused, accepted, Goes, done, call}
use Rattle.ledger.specs.Laws.{OneLedger}
use Rattle.ledger.proofs.Decided.{one_refusal}
use Rattle.ledger.proofs.Forms.{one_bit_form}

module _ (m : FieldData) (l : FieldLaws m) (n : ℕ) where
  one_entry : {L L₁ L₂ : Ledger} {c : Call} → Enters m n L c L₁ → Enters m n L c L₂ → L₁ ≡ L₂
  one_entry {L} (enters_text d b w c a) (enters_text _ _ _ c' a') = ap (λ (k : Circuit). put L d (Some (text k))) (one_circuit n m.width b c c' a a')
  one_entry (enters_rows d ts p s r) (enters_rows _ _ _ _ _) = refl
  one_entry (enters_none d) (enters_none _) = refl
  one_entry (compare_leaves d b) (compare_leaves _ _) = refl
  one_entry (value_leaves d xs) (value_leaves _ _) = refl
  one_entry (card_leaves d p s c) (card_leaves _ _ _ _) = refl

  pub one_after : {L L₁ L₂ : Ledger} {c : Call} {o o' : Option Fault} → After m n L c o L₁ → After m n L c o' L₂ → (o ≡ o') × (L₁ ≡ L₂)
  one_after {L} (refused e x) (refused e' y) = (ap (λ (f : Fault). Some f) (one_refusal m l n L (IsForm m n) (one_bit_form m n) x y), refl)
  one_after (refused e x) (accepted L₂ y z) = absurd (y e x)
  one_after (accepted L₁ y z) (refused e x) = absurd (y e x)
  one_after (accepted L₁ y z) (accepted L₂ u v) = (refl, one_entry z v)

  pub one_run : {L L₁ L₂ : Ledger} {i : ℕ} {cs : List Call} {o o' : Option (ℕ × Fault)} → Goes m n L i cs o L₁ → Goes m n L i cs o' L₂ → (o ≡ o') × (L₁ ≡ L₂)
  one_run (done L i) (done _ _) = (refl, refl)
  one_run (call L i c cs f o K L₁ a g) (call _ _ _ _ f' o' K' L₂ a' g') =
      let x = one_after a a' in
      let y = one_run (subst (λ (M : Ledger). Goes m n M (suc i) cs o L₁) x.1 g) g' in
      (ap₂ (λ (u : Option Fault) (v : Option (ℕ × Fault)). sooner i u v) x.0 y.0, y.1)

pub one_ledger : OneLedger
one_ledger m l n cs o o' L L' x y = one_run m l n x y
