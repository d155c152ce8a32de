-- What is wrong with a later line is unique.
use Rattle.std.proofs.Common.{◌≡◌, ℕ, ◌<◌, ◌≤◌, ◌⊎◌, List, [], refl, subst, inl, inr, arith}
use Rattle.fault.specs.declared.Fault.{Fault}
use Rattle.fault.specs.declared.Fault.TheVariants.{WrongForm, NetNotDriven, TooManyNets, LineMissing}
use Rattle.lines.specs.declared.Op.{Op}
use Rattle.lines.specs.declared.Head.{Head}
use Rattle.lines.specs.declared.Head.TheVariants.{Words, Out}
use Rattle.lines.specs.declared.Head.TheVariants as head
use Rattle.lines.specs.Text.{Line}
use Rattle.lines.proofs.Same.{same_line, not_empty}
use Rattle.netlist.specs.Circuits.{Below}
use Rattle.netlist.specs.Refusals.{BadEntry, no_line, line_form, gate_over, gate_undriven, out_undriven}

abbrev Gated : Head → Type 0
Gated Words = ⊥
Gated Out = ⊥
Gated (head.Gate o) = Unit {0}

module _ (k d at : ℕ) (s : List ℕ) where
  pub gate_not_out : {o : Op} {vs ws r t : List ℕ} → Line k s (head.Gate o) vs r → Line k s Out ws t → ⊥
  gate_not_out l m = subst Gated (same_line l m).same_word tt

  -- with no byte
  at_none : {f : Fault} → s ≡ [] → BadEntry k d at s f → LineMissing at ≡ f
  at_none e (no_line _) = refl
  at_none e (line_form h _ _) = absurd (h e)
  at_none e (gate_over o vs r l _) = absurd (not_empty l e)
  at_none e (gate_undriven o vs r l _ _) = absurd (not_empty l e)
  at_none e (out_undriven vs r l _) = absurd (not_empty l e)

  -- with no line of right form
  at_form : {f : Fault} → (s ≡ [] → ⊥) → ((o : Op) (vs rest : List ℕ) → Line k s (head.Gate o) vs rest → ⊥) → ((vs rest : List ℕ) → Line k s Out vs rest → ⊥) → BadEntry k d at s f → WrongForm at ≡ f
  at_form h no_gate no_out (no_line e) = absurd (h e)
  at_form h no_gate no_out (line_form _ _ _) = refl
  at_form h no_gate no_out (gate_over o vs r l _) = absurd (no_gate _ _ _ l)
  at_form h no_gate no_out (gate_undriven o vs r l _ _) = absurd (no_gate _ _ _ l)
  at_form h no_gate no_out (out_undriven vs r l _) = absurd (no_out _ _ l)

  -- with the line of a gate
  at_gate : {f : Fault} {o : Op} {vs r : List ℕ} → Line k s (head.Gate o) vs r → BadEntry k d at s f
      → ((256 ≤ d) × (TooManyNets at ≡ f)) ⊎ ((d < 256) × (Below d vs → ⊥) × (NetNotDriven at ≡ f))
  at_gate l (no_line e) = absurd (not_empty l e)
  at_gate l (line_form _ h _) = absurd (h _ _ _ l)
  at_gate l (gate_over o vs r m h) = inl (h, refl)
  at_gate l (gate_undriven o vs r m h u) = inr (h, (λ b. u (subst (Below d) (same_line l m).same_list b)), refl)
  at_gate l (out_undriven vs r m _) = absurd (gate_not_out l m)

  -- with an out line
  at_out : {f : Fault} {vs r : List ℕ} → Line k s Out vs r → BadEntry k d at s f → (Below d vs → ⊥) × (NetNotDriven at ≡ f)
  at_out l (no_line e) = absurd (not_empty l e)
  at_out l (line_form _ _ h) = absurd (h _ _ l)
  at_out l (gate_over o vs r m _) = absurd (gate_not_out m l)
  at_out l (gate_undriven o vs r m _ _) = absurd (gate_not_out m l)
  at_out l (out_undriven vs r m u) = ((λ b. u (subst (Below d) (same_line l m).same_list b)), refl)

  over : {f : Fault} (vs : List ℕ) → 256 ≤ d → ((256 ≤ d) × (TooManyNets at ≡ f)) ⊎ ((d < 256) × (Below d vs → ⊥) × (NetNotDriven at ≡ f)) → TooManyNets at ≡ f
  over vs h (inl x) = x.1
  over vs h (inr x) = absurd (omega (arith, x.0))

  undriven : {f : Fault} (vs : List ℕ) → d < 256 → ((256 ≤ d) × (TooManyNets at ≡ f)) ⊎ ((d < 256) × (Below d vs → ⊥) × (NetNotDriven at ≡ f)) → NetNotDriven at ≡ f
  undriven vs h (inl x) = absurd (omega (arith, x.0))
  undriven vs h (inr x) = x.2

  pub same_entry : {e f : Fault} → BadEntry k d at s e → BadEntry k d at s f → e ≡ f
  same_entry (no_line e) b = at_none e b
  same_entry (line_form h g o) b = at_form h g o b
  same_entry (gate_over o vs r l h) b = over vs h (at_gate l b)
  same_entry (gate_undriven o vs r l h _) b = undriven vs h (at_gate l b)
  same_entry (out_undriven vs r l _) b = (at_out l b).1

  -- a good line is not bad
  pub good_gate : {f : Fault} {o : Op} {vs r : List ℕ} → Line k s (head.Gate o) vs r → d < 256 → Below d vs → BadEntry k d at s f → ⊥
  good_gate {f} {o} {vs} l h b e = by (at_gate l e)
    where
      by : ((256 ≤ d) × (TooManyNets at ≡ f)) ⊎ ((d < 256) × (Below d vs → ⊥) × (NetNotDriven at ≡ f)) → ⊥
      by (inl x) = omega (arith, x.0)
      by (inr x) = x.1 b

  pub good_outs : {f : Fault} {vs r : List ℕ} → Line k s Out vs r → Below d vs → BadEntry k d at s f → ⊥
  good_outs l b e = (at_out l e).0 b
