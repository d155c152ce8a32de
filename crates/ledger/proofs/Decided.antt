-- The rules give each call one refusal at most, and none to a call whose checks all pass. Assumes nothing.
use Rattle.std.proofs.Common.{◌≡◌, ℕ, ◌≤◌, min, List, length, Some, None, Option, sym, refl, ap, ◌∙◌, subst, arith}
use Rattle.algebra.specs.Field.{FieldData, FieldLaws}
use Rattle.fault.specs.declared.Fault.{Fault}
use Rattle.fault.specs.declared.Fault.TheVariants.{BadCardRow}
use Rattle.terms.specs.declared.Term.{Term}
use Rattle.terms.specs.declared.nets.NetSet.{NetSet}
use Rattle.netlist.specs.Circuits.{Circuit}
use Rattle.netlist.specs.Refusals as reader
use Rattle.netlist.proofs.Unique.{one_fault, one_circuit, not_both}
use Rattle.gates.specs.Answers as gates
use Rattle.convert.specs.Convert.{finished}
use Rattle.cards.specs.Law.{Polynomial, IsInput}
use Rattle.cards.specs.Working.{card_working, card_fault}
use Rattle.cards.specs.BitsWorking.{bits_working}
use Rattle.ledger.specs.Rules.{Call, filing, card_filing, withdrawing, comparing, valuing, carding, Duals, Free, NotFree, Shows, ShowsNothing, Refused, beyond, filled, empty, file_drawer, file_reader, file_bits, rows_drawer, rows_bad, rows_bits, withdraw_drawer, compare_first, compare_second, compare_first_empty, compare_second_empty, value_drawer, value_word, card_drawer, card_full}
use Rattle.ledger.proofs.Polynomials.{one_bad_row, no_bad_row}
use Rattle.ledger.proofs.Workings.{one_bits, not_refused, one_bits_refused, not_bits_refused, finished_stopped, stopped_is, same_working}

none_is_some : {A : Type 0} (o : Option A) (f : A) → o ≡ None → o ≡ Some f → ⊥
none_is_some o f x y = let z : ◌≡◌ {A = ℕ} 0 1 = cc in omega arith

pub some_is : {A : Type 0} (o : Option A) (f g : A) → o ≡ Some f → o ≡ Some g → f ≡ g
some_is o f g x y = cc

module _ (m : FieldData) (l : FieldLaws m) (n : ℕ) {A : Type 0} (at : ℕ → Option A) (Form : A → List (Term NetSet) → Type 0)
    (sole : (f : A) (us vs : List (Term NetSet)) → Form f us → Form f vs → us ≡ vs) where
  abbrev R : Call → Fault → Type 0
  R = Refused m n at Form

  -- ---- the drawers
  one_free : {d : ℕ} {e g : Fault} → NotFree at d e → NotFree at d g → e ≡ g
  one_free (beyond x) (beyond y) = refl
  one_free (beyond x) (filled f y z) = absurd (omega arith)
  one_free (filled f y z) (beyond x) = absurd (omega arith)
  one_free (filled f y z) (filled g u v) = refl

  pub not_free : {d : ℕ} {e : Fault} → Free at d → NotFree at d e → ⊥
  not_free f (beyond x) = omega (arith, f.number)
  not_free {d} f (filled g x y) = none_is_some (at d) g f.empty y

  one_nothing : {d : ℕ} {e g : Fault} → ShowsNothing at d e → ShowsNothing at d g → e ≡ g
  one_nothing (beyond x) (beyond y) = refl
  one_nothing (beyond x) (empty y z) = absurd (omega arith)
  one_nothing (empty y z) (beyond x) = absurd (omega arith)
  one_nothing (empty y z) (empty u v) = refl

  pub not_nothing : {d : ℕ} {f : A} {e : Fault} → Shows at d f → ShowsNothing at d e → ⊥
  not_nothing s (beyond x) = omega (arith, s.number)
  not_nothing {d} {f} s (empty x y) = none_is_some (at d) f y s.filled

  -- ---- two refusals
  file_one : {d w : ℕ} {bytes : List ℕ} {e g : Fault} → R (filing d bytes w) e → R (filing d bytes w) g → e ≡ g
  file_one (file_drawer d b w x) (file_drawer _ _ _ y) = one_free x y
  file_one (file_drawer d b w x) (file_reader _ _ _ f y) = absurd (not_free f x)
  file_one (file_drawer d b w x) (file_bits _ _ _ f c a y) = absurd (not_free f x)
  file_one (file_reader d b w f x) (file_drawer _ _ _ y) = absurd (not_free f y)
  file_one (file_reader d b w f x) (file_reader _ _ _ g y) = one_fault n m.width b x y
  file_one (file_reader d b w f x) (file_bits _ _ _ g c a y) = absurd (not_both n m.width b c a x)
  file_one (file_bits d b w f c a x) (file_drawer _ _ _ y) = absurd (not_free f y)
  file_one (file_bits d b w f c a x) (file_reader _ _ _ g y) = absurd (not_both n m.width b c a y)
  file_one {e = e} (file_bits d b w f c a x) (file_bits _ _ _ g c' a' y) = one_bits c' w (subst (λ (k : Circuit). gates.Refused k w e) (one_circuit n m.width b c c' a a') x) y

  rows_one : {d p s r : ℕ} {ts : List (Term (List ℕ))} {e g : Fault} → R (card_filing d ts p s r) e → R (card_filing d ts p s r) g → e ≡ g
  rows_one (rows_drawer d ts p s r x) (rows_drawer _ _ _ _ _ y) = one_free x y
  rows_one (rows_drawer d ts p s r x) (rows_bad _ _ _ _ _ f i y) = absurd (not_free f x)
  rows_one (rows_drawer d ts p s r x) (rows_bits _ _ _ _ _ f q y) = absurd (not_free f x)
  rows_one (rows_bad d ts p s r f i x) (rows_drawer _ _ _ _ _ y) = absurd (not_free f y)
  rows_one (rows_bad d ts p s r f i x) (rows_bad _ _ _ _ _ g j y) = ap BadCardRow (one_bad_row m n ts i j x y)
  rows_one (rows_bad d ts p s r f i x) (rows_bits _ _ _ _ _ g q y) = absurd (no_bad_row m n ts i q x)
  rows_one (rows_bits d ts p s r f q x) (rows_drawer _ _ _ _ _ y) = absurd (not_free f y)
  rows_one (rows_bits d ts p s r f q x) (rows_bad _ _ _ _ _ g i y) = absurd (no_bad_row m n ts i q y)
  rows_one (rows_bits d ts p s r f q x) (rows_bits _ _ _ _ _ g q' y) = one_bits_refused (bits_working m n (min p s) r ts) x y

  compare_one : {d b : ℕ} {e g : Fault} → R (comparing d b) e → R (comparing d b) g → e ≡ g
  compare_one (compare_first d b x) (compare_first _ _ y) = refl
  compare_one (compare_first d b x) (compare_second _ _ y z) = refl
  compare_one (compare_first d b x) (compare_first_empty _ _ y z o) = absurd (omega arith)
  compare_one (compare_first d b x) (compare_second_empty _ _ f y z o u) = absurd (omega arith)
  compare_one (compare_second d b w x) (compare_first _ _ y) = refl
  compare_one (compare_second d b w x) (compare_second _ _ y z) = refl
  compare_one (compare_second d b w x) (compare_first_empty _ _ y z o) = absurd (omega arith)
  compare_one (compare_second d b w x) (compare_second_empty _ _ f y z o u) = absurd (omega arith)
  compare_one (compare_first_empty d b v w x) (compare_first _ _ y) = absurd (omega arith)
  compare_one (compare_first_empty d b v w x) (compare_second _ _ y z) = absurd (omega arith)
  compare_one (compare_first_empty d b v w x) (compare_first_empty _ _ y z o) = refl
  compare_one (compare_first_empty d b v w x) (compare_second_empty _ _ f y z o u) = refl
  compare_one (compare_second_empty d b h v w x i) (compare_first _ _ y) = absurd (omega arith)
  compare_one (compare_second_empty d b h v w x i) (compare_second _ _ y z) = absurd (omega arith)
  compare_one (compare_second_empty d b h v w x i) (compare_first_empty _ _ y z o) = refl
  compare_one (compare_second_empty d b h v w x i) (compare_second_empty _ _ f y z o u) = refl

  value_one : {d : ℕ} {xs : List ℕ} {e g : Fault} → R (valuing d xs) e → R (valuing d xs) g → e ≡ g
  value_one (value_drawer d xs x) (value_drawer _ _ y) = one_nothing x y
  value_one (value_drawer d xs x) (value_word _ _ f s y) = absurd (not_nothing s x)
  value_one (value_word d xs f s x) (value_drawer _ _ y) = absurd (not_nothing s y)
  value_one (value_word d xs f s x) (value_word _ _ g u y) = refl

  -- the working of what a drawer shows
  same_end : (p s c d : ℕ) (f g : A) → Shows at d f → Shows at d g → (us vs : List (Term NetSet)) → Form f us → Form g vs → (δ ε : ℕ → ℕ) → Duals m δ → Duals m ε
      → card_working m n δ (min p s) c us ≡ card_working m n ε (min p s) c vs
  same_end p s c d f g x y us vs a b δ ε u v =
      let e = sole g us vs (subst (λ (h : A). Form h us) (some_is (at d) f g x.filled y.filled) a) b in
      same_working m l n δ ε u v (min p s) c us ∙ ap (card_working m n ε (min p s) c) e

  card_one : {d p s c : ℕ} {e g : Fault} → R (carding d p s c) e → R (carding d p s c) g → e ≡ g
  card_one (card_drawer d p s c x) (card_drawer _ _ _ _ y) = one_nothing x y
  card_one (card_drawer d p s c x) (card_full _ _ _ _ f h us a δ u t y) = absurd (not_nothing h x)
  card_one (card_full d p s c f h us a δ u t x) (card_drawer _ _ _ _ y) = absurd (not_nothing h y)
  card_one (card_full d p s c f h us a δ u t x) (card_full _ _ _ _ g k vs b ε v t' y) =
      ap card_fault (stopped_is t t' (sym x ∙ same_end p s c d f g h k us vs a b δ ε u v ∙ y))

  -- a call has one refusal at most
  pub one_refusal : {c : Call} {e g : Fault} → R c e → R c g → e ≡ g
  one_refusal (file_drawer d b w x) y = file_one (file_drawer d b w x) y
  one_refusal (file_reader d b w f x) y = file_one (file_reader d b w f x) y
  one_refusal (file_bits d b w f c a x) y = file_one (file_bits d b w f c a x) y
  one_refusal (rows_drawer d ts p s r x) y = rows_one (rows_drawer d ts p s r x) y
  one_refusal (rows_bad d ts p s r f i x) y = rows_one (rows_bad d ts p s r f i x) y
  one_refusal (rows_bits d ts p s r f q x) y = rows_one (rows_bits d ts p s r f q x) y
  one_refusal (withdraw_drawer d x) (withdraw_drawer _ y) = one_nothing x y
  one_refusal (compare_first d b x) y = compare_one (compare_first d b x) y
  one_refusal (compare_second d b w x) y = compare_one (compare_second d b w x) y
  one_refusal (compare_first_empty d b v w x) y = compare_one (compare_first_empty d b v w x) y
  one_refusal (compare_second_empty d b h v w x i) y = compare_one (compare_second_empty d b h v w x i) y
  one_refusal (value_drawer d xs x) y = value_one (value_drawer d xs x) y
  one_refusal (value_word d xs f s x) y = value_one (value_word d xs f s x) y
  one_refusal (card_drawer d p s c x) y = card_one (card_drawer d p s c x) y
  one_refusal (card_full d p s c f h us a δ u t x) y = card_one (card_full d p s c f h us a δ u t x) y

  -- ---- no refusal
  pub file_none : (d : ℕ) (bytes : List ℕ) (w : ℕ) → Free at d → (c : Circuit) → reader.Accepted n m.width bytes c → (us : List (Term NetSet)) → gates.Found c w us → (e : Fault) → R (filing d bytes w) e → ⊥
  file_none d b w f c a us found e (file_drawer _ _ _ x) = not_free f x
  file_none d b w f c a us found e (file_reader _ _ _ g x) = not_both n m.width b c a x
  file_none d b w f c a us found e (file_bits _ _ _ g c' a' x) = not_refused c' w (subst (λ (k : Circuit). gates.Found k w us) (one_circuit n m.width b c c' a a') found) x

  pub rows_none : (d : ℕ) (ts : List (Term (List ℕ))) (p s r : ℕ) → Free at d → Polynomial m n ts → (us : List (Term NetSet)) → bits_working m n (min p s) r ts ≡ finished us → length us ≤ 256
      → (e : Fault) → R (card_filing d ts p s r) e → ⊥
  rows_none d ts p s r f q us h few e (rows_drawer _ _ _ _ _ x) = not_free f x
  rows_none d ts p s r f q us h few e (rows_bad _ _ _ _ _ g i x) = no_bad_row m n ts i q x
  rows_none d ts p s r f q us h few e (rows_bits _ _ _ _ _ g q' x) = not_bits_refused (bits_working m n (min p s) r ts) h few x

  pub withdraw_none : (d : ℕ) (f : A) → Shows at d f → (e : Fault) → R (withdrawing d) e → ⊥
  withdraw_none d f s e (withdraw_drawer _ x) = not_nothing s x

  pub compare_none : (d b : ℕ) (f g : A) → Shows at d f → Shows at b g → (e : Fault) → R (comparing d b) e → ⊥
  compare_none d b f g s t e (compare_first _ _ x) = omega (arith, s.number)
  compare_none d b f g s t e (compare_second _ _ x y) = omega (arith, t.number)
  compare_none d b f g s t e (compare_first_empty _ _ x y z) = none_is_some (at d) f z s.filled
  compare_none d b f g s t e (compare_second_empty _ _ h x y z w) = none_is_some (at b) g w t.filled

  pub value_none : (d : ℕ) (xs : List ℕ) (f : A) → Shows at d f → IsInput m n xs → (e : Fault) → R (valuing d xs) e → ⊥
  value_none d xs f s i e (value_drawer _ _ x) = not_nothing s x
  value_none d xs f s i e (value_word _ _ g t x) = x i

  pub card_none : (d p s c : ℕ) (f : A) → Shows at d f → (us : List (Term NetSet)) → Form f us → (δ : ℕ → ℕ) → Duals m δ → (ts : List (Term (List ℕ)))
      → card_working m n δ (min p s) c us ≡ finished ts → (e : Fault) → R (carding d p s c) e → ⊥
  card_none d p s c f h us a δ u ts x e (card_drawer _ _ _ _ y) = not_nothing h y
  card_none d p s c f h us a δ u ts x e (card_full _ _ _ _ g k vs b ε v t y) = finished_stopped ts t (sym x ∙ same_end p s c d f g h k us vs a b δ ε u v ∙ y)
