-- What is wrong with the words line is unique.
use Rattle.std.proofs.Common.{◌≡◌, ℕ, ◌⊎◌, List, [], ◌∷◌, get_or, refl, ap, ◌∙◌, subst, inl, inr}
use Rattle.fault.specs.declared.Fault.{Fault}
use Rattle.fault.specs.declared.Fault.TheVariants.{WrongForm, SizesOutOfRange, SizesNotTheShelfs, LineMissing}
use Rattle.lines.specs.declared.Head.TheVariants.{Words}
use Rattle.lines.specs.Text.{Line}
use Rattle.lines.proofs.Same.{same_line, not_empty}
use Rattle.netlist.specs.Circuits.{InRange}
use Rattle.netlist.specs.Refusals.{BadFirst, no_words, words_form, sizes_range, sizes_others}

module _ (n k : ℕ) (s : List ℕ) where
  same_sizes : {a b c d : ℕ} {r t : List ℕ} → Line k s Words (a ∷ b ∷ []) r → Line k s Words (c ∷ d ∷ []) t → (a ≡ c) × (b ≡ d)
  same_sizes l m = let p = same_line l m in (ap (λ x. get_or x 0 0) p.same_list, ap (λ x. get_or x 1 0) p.same_list)

  moved : {a b c d : ℕ} {r t : List ℕ} → Line k s Words (a ∷ b ∷ []) r → Line k s Words (c ∷ d ∷ []) t → InRange a b → InRange c d
  moved {a} {b} {c} {d} l m h = let p = same_sizes l m in subst (λ x. InRange x d) p.0 (subst (λ x. InRange a x) p.1 h)

  -- with no byte
  at_none : {f : Fault} → s ≡ [] → BadFirst n k s f → LineMissing 1 ≡ f
  at_none e (no_words _) = refl
  at_none e (words_form h _) = absurd (h e)
  at_none e (sizes_range a b r l _) = absurd (not_empty l e)
  at_none e (sizes_others a b r l _ _) = absurd (not_empty l e)

  -- with no words line of right form
  at_form : {f : Fault} → (s ≡ [] → ⊥) → ((vs rest : List ℕ) → Line k s Words vs rest → ⊥) → BadFirst n k s f → WrongForm 1 ≡ f
  at_form h no_line (no_words e) = absurd (h e)
  at_form h no_line (words_form _ _) = refl
  at_form h no_line (sizes_range a b r l _) = absurd (no_line _ _ l)
  at_form h no_line (sizes_others a b r l _ _) = absurd (no_line _ _ l)

  -- with a words line of these sizes
  at_sizes : {f : Fault} {a b : ℕ} {r : List ℕ} → Line k s Words (a ∷ b ∷ []) r → BadFirst n k s f
      → ((InRange a b → ⊥) × (SizesOutOfRange ≡ f)) ⊎ (InRange a b × (a ≡ n → b ≡ k → ⊥) × (SizesNotTheShelfs ≡ f))
  at_sizes l (no_words e) = absurd (not_empty l e)
  at_sizes l (words_form _ h) = absurd (h _ _ l)
  at_sizes l (sizes_range a b r m h) = inl ((λ i. h (moved l m i)), refl)
  at_sizes l (sizes_others a b r m i h) = let p = same_sizes m l in inr (moved m l i, (λ x y. h (p.0 ∙ x) (p.1 ∙ y)), refl)

  pub good_first : {f : Fault} {r : List ℕ} → InRange n k → Line k s Words (n ∷ k ∷ []) r → BadFirst n k s f → ⊥
  good_first {f} h l b = by (at_sizes l b)
    where
      by : ((InRange n k → ⊥) × (SizesOutOfRange ≡ f)) ⊎ (InRange n k × (n ≡ n → k ≡ k → ⊥) × (SizesNotTheShelfs ≡ f)) → ⊥
      by (inl x) = x.0 h
      by (inr x) = x.1 refl refl

  out_of_range : {f : Fault} {a b : ℕ} → (InRange a b → ⊥) → ((InRange a b → ⊥) × (SizesOutOfRange ≡ f)) ⊎ (InRange a b × (a ≡ n → b ≡ k → ⊥) × (SizesNotTheShelfs ≡ f)) → SizesOutOfRange ≡ f
  out_of_range h (inl x) = x.1
  out_of_range h (inr x) = absurd (h x.0)

  within_range : {f : Fault} {a b : ℕ} → InRange a b → ((InRange a b → ⊥) × (SizesOutOfRange ≡ f)) ⊎ (InRange a b × (a ≡ n → b ≡ k → ⊥) × (SizesNotTheShelfs ≡ f)) → SizesNotTheShelfs ≡ f
  within_range h (inl x) = absurd (x.0 h)
  within_range h (inr x) = x.2

  pub same_first : {e f : Fault} → BadFirst n k s e → BadFirst n k s f → e ≡ f
  same_first (no_words e) b = at_none e b
  same_first (words_form h g) b = at_form h g b
  same_first (sizes_range _ _ r l h) b = out_of_range h (at_sizes l b)
  same_first (sizes_others _ _ r l h _) b = within_range h (at_sizes l b)
