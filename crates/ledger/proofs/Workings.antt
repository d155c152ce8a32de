-- Each working ends in one way. Assumes nothing.
use Rattle.std.proofs.Common.{◌≡◌, ℕ, ◌*◌, ◌/◌, ◌%◌, ◌<◌, ◌≤◌, List, [], length, sym, refl, ap, ◌∙◌, mod-lt, arith}
use Rattle.algebra.specs.Field.{FieldData, FieldLaws, product}
use Rattle.algebra.proofs.Theory.{field_theory}
use Rattle.fault.specs.declared.Fault.{Fault}
use Rattle.terms.specs.Additions.{Ended, done, full}
use Rattle.terms.specs.Sets.{holds}
use Rattle.terms.specs.declared.Term.{Term}
use Rattle.terms.specs.declared.nets.NetSet.{NetSet}
use Rattle.netlist.specs.Circuits.{Circuit}
use Rattle.gates.specs.Answers.{Found, no_row, too_many}
use Rattle.gates.specs.Answers as gates
use Rattle.convert.specs.Convert.{Converted, finished, stopped, converting}
use Rattle.convert.specs.declared.FullTable.{FullTable}
use Rattle.cards.specs.BitsWorking.{BitsRefused, full as bits_full, too_many as bits_many}
use Rattle.cards.specs.Sums.{bit_sum, card_kind}
use Rattle.cards.specs.Working.{bit_factors, card_working}
use Rattle.cards.proofs.Blocks.{chosen_same}
use Rattle.ledger.specs.Rules.{Duals}

-- ---- ends are told apart
done_full : {M : Type 0} (us vs : List (Term M)) → ◌≡◌ {A = Ended M} (done us) (full vs) → ⊥
done_full us vs e = let z : ◌≡◌ {A = ℕ} 0 1 = cc in omega arith

done_is : {M : Type 0} (us vs : List (Term M)) → ◌≡◌ {A = Ended M} (done us) (done vs) → us ≡ vs
done_is us vs e = cc

pub finished_stopped : {M : Type 0} (us : List (Term M)) (t : FullTable) → ◌≡◌ {A = Converted M} (finished us) (stopped t) → ⊥
finished_stopped us t e = let z : ◌≡◌ {A = ℕ} 0 1 = cc in omega arith

pub finished_is : {M : Type 0} (us vs : List (Term M)) → ◌≡◌ {A = Converted M} (finished us) (finished vs) → us ≡ vs
finished_is us vs e = cc

pub stopped_is : {M : Type 0} (s t : FullTable) → ◌≡◌ {A = Converted M} (stopped s) (stopped t) → s ≡ t
stopped_is s t e = cc

-- ---- gates to bits
module _ (c : Circuit) (cap : ℕ) where
  pub one_form : {us vs : List (Term NetSet)} → Found c cap us → Found c cap vs → us ≡ vs
  one_form {us} {vs} x y = done_is us vs (y.only (done us) x.worked)

  pub one_bits : {f g : Fault} → gates.Refused c cap f → gates.Refused c cap g → f ≡ g
  one_bits (no_row us w o) (no_row vs w' o') = refl
  one_bits (no_row us w o) (too_many vs w' o' h) = absurd (done_full vs us (o (done vs) w'))
  one_bits (too_many us w o h) (no_row vs w' o') = absurd (done_full us vs (o' (done us) w))
  one_bits (too_many us w o h) (too_many vs w' o' h') = refl

  pub not_refused : {f : Fault} {us : List (Term NetSet)} → Found c cap us → gates.Refused c cap f → ⊥
  not_refused {f} {us} x (no_row vs w o) = done_full us vs (o (done us) x.worked)
  not_refused {f} {us} x (too_many vs w o h) = let e = ap length (done_is us vs (o (done us) x.worked)) in omega (arith, e, x.few)

-- ---- words to bits
module _ (end : Converted NetSet) where
  pub one_bits_refused : {f g : Fault} → BitsRefused end f → BitsRefused end g → f ≡ g
  one_bits_refused (bits_full t e) (bits_full u h) = refl
  one_bits_refused (bits_full t e) (bits_many us h l) = absurd (finished_stopped us t (sym h ∙ e))
  one_bits_refused (bits_many us h l) (bits_full t e) = absurd (finished_stopped us t (sym h ∙ e))
  one_bits_refused (bits_many us h l) (bits_many vs k r) = refl

  pub not_bits_refused : {f : Fault} {us : List (Term NetSet)} → end ≡ finished us → length us ≤ 256 → BitsRefused end f → ⊥
  not_bits_refused {f} {us} e few (bits_full t h) = finished_stopped us t (sym e ∙ h)
  not_bits_refused {f} {us} e few (bits_many vs h l) = let q = ap length (finished_is us vs (sym e ∙ h)) in omega (arith, q)

-- ---- bits to words: the duals of a field are its own
module _ (m : FieldData) (l : FieldLaws m) (n : ℕ) (δ ε : ℕ → ℕ) (d : Duals m δ) (e : Duals m ε) where
  same_dual : (i : ℕ) → i < m.width → δ i ≡ ε i
  same_dual i h = let r = (field_theory m l).duals i h in r.2 (δ i) (d i h) ∙ sym (r.2 (ε i) (e i h))

  pub same_working : (cap rows : ℕ) (us : List (Term NetSet)) → card_working m n δ cap rows us ≡ card_working m n ε cap rows us
  same_working cap rows us =
      let w = m.width in
      let wp : 0 < w = omega (arith, l.narrow) in
      let factors : Path (NetSet → List (List (Term (List ℕ)))) (bit_factors m n δ) (bit_factors m n ε) =
      λ i s. chosen_same (holds s) (λ p. bit_sum m (p / w) (δ (p % w)) w) (λ p. bit_sum m (p / w) (ε (p % w)) w) (n * w) (λ p h. ap (λ (x : ℕ). bit_sum m (p / w) x w) (same_dual (p % w) (mod-lt p wp))) 0 (n * w) (omega arith) i in
      ap (λ (f : NetSet → List (List (Term (List ℕ)))). converting (card_kind m n) (product m) cap rows f us []) factors
