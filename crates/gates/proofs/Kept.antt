-- Each step of the working keeps the value of the terms. Assumes nothing.
use Rattle.std.proofs.Common.{◌≡◌, ℕ, ◌<◌, Bool, true, cond, not, ◌&&◌, ◌||◌, eqb, List, [], ◌∷◌, sym, ap, ◌∙◌, ap₂}
use Rattle.std.proofs.Math.Bool.{and-false}
use lib.Bits.{bit_xor, xor_zero_l}
use Rattle.terms.specs.Terms.{added}
use Rattle.terms.specs.Nets.{net_model}
use Rattle.terms.specs.declared.Term.{Term}
use Rattle.terms.specs.declared.nets.NetSet.{NetSet}
use Rattle.netlist.specs.Circuits.{Below}
use Rattle.netlist.specs.Meaning.{parity}
use Rattle.netlist.specs.Meaning.{all_on}
use Rattle.terms.specs.Sets.{holds, among}
use Rattle.terms.specs.Additions.{done, adding}
use Rattle.gates.specs.Reductions.{Put, TailTerms}
use Rattle.terms.specs.Values.{every, set_on, value_under}
use Rattle.terms.proofs.Additions.{done_same, adding_first}
use Rattle.terms.proofs.Values.{on_or, on_split, xor_turn, value_at_added}
use Rattle.gates.proofs.Lit.{on_among, xor_cond}

-- all sets of the list lie below n
abbrev pub AllBelow : ℕ → List (List ℕ) → Type 0
AllBelow n [] = Unit {0}
AllBelow n (xs ∷ us) = Below n xs × AllBelow n us

-- ---- the value of terms
module _ (v : ℕ → Bool) where
  pub value_at_adding : (cap : ℕ) (adds ts us : List (Term NetSet)) → adding net_model cap adds ts ≡ done us → value_under v us ≡ bit_xor (value_under v adds) (value_under v ts)
  value_at_adding cap [] ts us e = ap (value_under v) (sym (done_same ts us e)) ∙ sym (xor_zero_l (value_under v ts))
  value_at_adding cap (t ∷ adds) ts us e =
      value_at_adding cap adds (added net_model t.code t.mono ts) us (adding_first net_model cap t adds ts us e).1
      ∙ ap (bit_xor (value_under v adds)) (value_at_added v t.code t.mono ts)
      ∙ xor_turn (value_under v adds) (cond (set_on v t.mono) t.code 0) (value_under v ts)

  -- s without g
  abbrev others : NetSet → ℕ → Bool
  others s g = every 256 (λ h. not (holds s h && not (eqb h g)) || v h)

  set_on_put : (s : NetSet) (g : ℕ) (xs : List ℕ) (u : NetSet) → Put s g xs u → Below 256 xs → set_on v u ≡ (others s g && all_on v xs)
  set_on_put s g xs u p b =
      (λ i. every 256 (λ h. not (p.members h i) || v h))
      ∙ on_or 256 v (λ h. holds s h && not (eqb h g)) (λ h. among h xs)
      ∙ ap (λ x. others s g && x) (on_among 256 v xs b)

  pub set_on_top : (s : NetSet) (g : ℕ) → g < 256 → holds s g ≡ true → set_on v s ≡ (others s g && v g)
  set_on_top s g l e = on_split 256 v (holds s) g l e

  -- the tail's terms have the code as their value where the other nets have bit one, and the tail's sum is one
  pub value_at_tail : (c : ℕ) (s : NetSet) (g : ℕ) (us : List (List ℕ)) (adds : List (Term NetSet)) → TailTerms c s g us adds → AllBelow 256 us
      → value_under v adds ≡ cond (others s g && parity v us) c 0
  value_at_tail c s g [] [] h b = ap (λ x. cond x c 0) (sym (and-false (others s g)))
  value_at_tail c s g [] (t ∷ adds) h b = absurd h
  value_at_tail c s g (xs ∷ us) [] h b = absurd h
  value_at_tail c s g (xs ∷ us) (t ∷ adds) h b =
      ap₂ bit_xor
      (ap (λ x. cond (set_on v t.mono) x 0) h.0 ∙ ap (λ x. cond x c 0) (set_on_put s g xs t.mono h.1 b.0))
      (value_at_tail c s g us adds h.2 b.1)
      ∙ xor_cond (others s g) (all_on v xs) (parity v us) c

  -- one step: the leading term goes, and its gate's tail comes
  pub value_at_step : (cap : ℕ) (t : Term NetSet) (ts adds us : List (Term NetSet)) (g : ℕ) (tl : List (List ℕ)) → g < 256 → holds t.mono g ≡ true → v g ≡ parity v tl → AllBelow 256 tl
      → TailTerms t.code t.mono g tl adds → adding net_model cap adds ts ≡ done us → value_under v us ≡ value_under v (t ∷ ts)
  value_at_step cap t ts adds us g tl l h p b w e =
      value_at_adding cap adds ts us e
      ∙ ap (λ x. bit_xor x (value_under v ts))
      (value_at_tail t.code t.mono g tl adds w b
      ∙ ap (λ x. cond x t.code 0) (ap (λ x. others t.mono g && x) (sym p) ∙ sym (set_on_top t.mono g l h)))
