-- The line that bytes begin with is unique.
use Rattle.std.proofs.Common.{◌≡◌, ℕ, ◌≤◌, List, [], ◌∷◌, ◌++◌, length, sym, refl, ap, ◌∙◌, subst, append_assoc, arith}
use Rattle.std.proofs.lemmas.List.{append_cancel_left}
use Rattle.lines.specs.declared.Op.{Op}
use Rattle.lines.specs.declared.Op.TheVariants as op
use Rattle.lines.specs.declared.Head.{Head}
use Rattle.lines.specs.declared.Head.TheVariants.{Words, Out}
use Rattle.lines.specs.declared.Head.TheVariants as head
use Rattle.lines.specs.Text.{keyword, numeral, numbers, Small, line, places, Line, Tail}
use Rattle.lines.proofs.Numbers.{same_number}
use Rattle.lines.proofs.Tails.{tail_ends}
use Rattle.lines.proofs.Heads.{same_head}

same_numbers : (vs ws r t : List ℕ) → length vs ≡ length ws → Small vs → Small ws → numbers vs ++ (10 ∷ r) ≡ numbers ws ++ (10 ∷ t) → (vs ≡ ws) × (r ≡ t)
same_numbers [] [] r t n a b e = (refl, append_cancel_left (10 ∷ []) r t e)
same_numbers [] (w ∷ ws) r t n a b e = absurd (omega arith)
same_numbers (v ∷ vs) [] r t n a b e = absurd (omega arith)
same_numbers (v ∷ vs) (w ∷ ws) r t n a b e =
    let f = append_cancel_left (32 ∷ []) _ _ e in
    let g = sym (append_assoc (numeral v) (numbers vs) (10 ∷ r)) ∙ f ∙ append_assoc (numeral w) (numbers ws) (10 ∷ t) in
    let one = same_number {s = numeral v ++ (numbers vs ++ (10 ∷ r))} {v = v} {w = w} {r = numbers vs ++ (10 ∷ r)} {t = numbers ws ++ (10 ∷ t)}
    (record { small = a.0; bytes = refl; ends = tail_ends vs r }) (record { small = b.0; bytes = g; ends = tail_ends ws t }) in
    let rest = same_numbers vs ws r t (omega arith) a.1 b.1 one.1 in
    ((λ i. one.0 i ∷ rest.0 i), rest.1)

pub same_tail : {s : List ℕ} {n : ℕ} {vs ws r t : List ℕ} → Tail s n vs r → Tail s n ws t → (vs ≡ ws) × (r ≡ t)
same_tail {s} {n} {vs} {ws} {r} {t} x y = same_numbers vs ws r t (x.many ∙ sym y.many) x.small y.small (sym x.bytes ∙ y.bytes)

pub record SameLine (h g : Head) (vs ws r t : List ℕ) : Type 0 where
  pub same_word : h ≡ g
  pub same_list : vs ≡ ws
  pub same_rest : r ≡ t

pub same_line : {k : ℕ} {s : List ℕ} {h g : Head} {vs ws r t : List ℕ} → Line k s h vs r → Line k s g ws t → SameLine h g vs ws r t
same_line {k} {s} {h} {g} {vs} {ws} {r} {t} l m =
    let w = same_head h g _ _ (sym l.bytes ∙ m.bytes) in
    let e = append_cancel_left (keyword g) _ _ (subst (λ x. keyword x ++ (numbers vs ++ (10 ∷ r)) ≡ keyword g ++ (numbers ws ++ (10 ∷ t))) w (sym l.bytes ∙ m.bytes)) in
    let n : length vs ≡ length ws = l.many ∙ ap (places k) w ∙ sym m.many in
    let p = same_numbers vs ws r t n l.small m.small e in
    record { same_word = w; same_list = p.0; same_rest = p.1 }

-- a line of printed bytes
pub made_line : {k : ℕ} {s : List ℕ} (h : Head) (vs r : List ℕ) → places k h ≤ 8 → length vs ≡ places k h → Small vs → s ≡ line h vs ++ r → Line k s h vs r
made_line h vs r f n a e =
    record { few = f; many = n; small = a; bytes = e ∙ append_assoc (keyword h) (numbers vs ++ (10 ∷ [])) r ∙ ap (λ x. keyword h ++ x) (append_assoc (numbers vs) (10 ∷ []) r) }

-- a line is not empty
op_starts : (o : Op) (xs : List ℕ) → 1 ≤ length (keyword (head.Gate o) ++ xs)
op_starts op.And xs = omega arith
op_starts op.Or xs = omega arith
op_starts op.Xor xs = omega arith
op_starts op.Nand xs = omega arith
op_starts op.Nor xs = omega arith
op_starts op.Xnor xs = omega arith
op_starts op.Not xs = omega arith
op_starts op.Buf xs = omega arith
op_starts op.Zero xs = omega arith
op_starts op.One xs = omega arith

starts : (h : Head) (xs : List ℕ) → 1 ≤ length (keyword h ++ xs)
starts Words xs = omega arith
starts Out xs = omega arith
starts (head.Gate o) xs = op_starts o xs

pub not_empty : {k : ℕ} {s : List ℕ} {h : Head} {vs r : List ℕ} → Line k s h vs r → s ≡ [] → ⊥
not_empty {k} {s} {h} {vs} {r} l e =
    let long = starts h (numbers vs ++ (10 ∷ r)) in
    omega (arith, ap length (sym l.bytes ∙ e))
