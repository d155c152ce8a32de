-- A circuit has one bit form. Assumes nothing.
use Rattle.std.proofs.Common.{◌≡◌, ℕ, zero, suc, ◌<◌, Bool, false, List, [], ◌∷◌, ◌++◌, length, get_or, sym, refl, ap, ◌∙◌, ⊎_elim, not-suc-le-zero, arith}
use Rattle.std.proofs.lemmas.List.{get_or_append_left, get_or_at, length_push}
use Rattle.std.proofs.lemmas.Bool.{cases_eq}
use Rattle.terms.specs.Values.{value_under}
use Rattle.terms.specs.declared.Term.{Term}
use Rattle.terms.specs.declared.nets.NetSet.{NetSet}
use Rattle.terms.specs.Forms.{Form}
use Rattle.terms.proofs.Sole.{same_forms}
use Rattle.terms.proofs.Values.{value_at_agree}
use Rattle.netlist.specs.Circuits.{Circuit, inputs}
use Rattle.gates.specs.Forms.{BitForm, OnlyForm}

-- ---- inputs
-- the first n bits of v
abbrev bits_of : ℕ → (ℕ → Bool) → List Bool
bits_of zero v = []
bits_of (suc n) v = bits_of n v ++ (v n ∷ [])

bits_long : (n : ℕ) (v : ℕ → Bool) → length (bits_of n v) ≡ n
bits_long zero v = refl
bits_long (suc n) v = let e = length_push (bits_of n v) (v n) in let f = bits_long n v in omega arith

bits_at : (n : ℕ) (v : ℕ → Bool) (g : ℕ) → g < n → get_or (bits_of n v) g false ≡ v g
bits_at zero v g l = absurd (not-suc-le-zero l)
bits_at (suc n) v g l =
    let e = bits_long n v in
    ⊎_elim
    (λ q. ap (λ i. get_or (bits_of n v ++ (v n ∷ [])) i false) q ∙ get_or_at (bits_of n v) (v n) [] false n e ∙ ap v (sym q))
    (λ d. get_or_append_left (bits_of n v) (v n ∷ []) false g (omega arith) ∙ bits_at n v g (omega arith))
    (cases_eq g n)

-- ---- forms
form_of_lem : (c : Circuit) (us : List (Term NetSet)) → BitForm c us → Form us
form_of_lem c us b = record { own = b.own; falling = b.falling; nonzero = b.nonzero }

-- the value at any bits is that at the input with the first of them
at_bits : (c : Circuit) (us : List (Term NetSet)) → BitForm c us → (v : ℕ → Bool) → value_under v us ≡ value_under (λ g. get_or (bits_of (inputs c) v) g false) us
at_bits c us b v = value_at_agree v (λ g. get_or (bits_of (inputs c) v) g false) (inputs c) (λ i l. sym (bits_at (inputs c) v i l)) us b.no_gate

pub only_form : OnlyForm
only_form c us vs b d =
    same_forms us vs (form_of_lem c us b) (form_of_lem c vs d)
    (λ v. let ins = bits_of (inputs c) v in let l = bits_long (inputs c) v in at_bits c us b v ∙ b.right ins l ∙ sym (d.right ins l) ∙ sym (at_bits c vs d v))
