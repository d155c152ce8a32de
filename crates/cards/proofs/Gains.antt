-- What additions to a table gain in value, where the terms under a net are worked together. Assumes nothing.
use Rattle.std.proofs.Common.{◌≡◌, ℕ, zero, suc, ◌+◌, ◌*◌, ◌/◌, ◌%◌, ◌<◌, ◌≤◌, true, false, cond, List, [], ◌∷◌, ◌++◌, length, get_or, take, Ok, Err, Result, IfOk, sym, refl, ap, ◌∙◌, subst, ap₂, ⊎_elim, mod-lt, div-lt_iff_lt-mul, arith, pow_pos}
use lib.Bits.{bit_xor, xor_comm, xor_assoc, xor_zero_r, xor_lt}
use mathlib.Core.Logic.{∥∥₁_elim}
use native.Mathlib.Nat.{ℕ_set}
use Rattle.std.specs.Coded.{×_prop, Unit-prop, le_prop}
use Rattle.std.proofs.lemmas.List.{take_more}
use Rattle.std.proofs.lemmas.Bool.{cases_Bool, cond-true, cond-false}
use Rattle.algebra.specs.Codes.{row_power}
use Rattle.algebra.specs.Field.{FieldData, FieldLaws, size, product}
use Rattle.algebra.proofs.Total.{product_below, product_dist_r, product_zero}
use Rattle.terms.specs.Additions.{done, adding}
use Rattle.terms.specs.Exps.{tops_for}
use Rattle.terms.specs.Kind.{KindModel, KindLaws}
use Rattle.terms.specs.Sets.{holds}
use Rattle.terms.specs.Terms.{added, Codes, Monos}
use Rattle.terms.specs.Values.{every, bit_at}
use Rattle.terms.specs.declared.Term.{Term}
use Rattle.terms.specs.declared.nets.NetSet.{NetSet}
use Rattle.terms.specs.BothKinds.{exp_laws}
use Rattle.terms.proofs.Laws.{added_codes, added_monos, value_added}
use Rattle.convert.specs.Convert.{block, Reached}
use Rattle.convert.specs.Products.{all_products}
use Rattle.convert.specs.Owned.{Owned-prop}
use Rattle.convert.specs.declared.places.Factors.{Factors}
use Rattle.convert.proofs.Steps.{all_own, adding_monos, monos_append, monos_take, monos_drop}
use Rattle.cards.specs.Law.{IsInput, card_value}
use Rattle.cards.specs.Nested.{ByNet, on_below, value_below, OwnTerms, Gained}
use Rattle.cards.specs.Sums.{bit_term, card_kind, BitSums}
use Rattle.cards.proofs.Blocks.{block_is, bit_here, whole}
use Rattle.cards.proofs.CardLaw.{own_row, value_plain, codes_plain}
use Rattle.cards.proofs.Total.{total, value_same}
use Rattle.cards.proofs.UnderNets.{value_append, value_without, value_off, value_on, adding_value, all_codes, all_value, bit_value, by_one, unit_power}
use Rattle.convert.proofs.Plain.{plain}

-- one more term has the property
pub monos_next : {M : Type 0} (P : M → Type 0) (ts : List (Term M)) (i : ℕ) (d : Term M) → i < length ts → Monos P (take i ts) → P (get_or ts i d).mono → Monos P (take (i + 1) ts)
monos_next P ts i d h u p = subst (Monos P) (sym (take_more ts i d h)) (monos_append P (take i ts) (get_or ts i d ∷ []) u (p, tt))

codes_at : {M : Type 0} (P : ℕ → Type 0) (ts : List (Term M)) (i : ℕ) (d : Term M) → i < length ts → Codes P ts → P (get_or ts i d).code
codes_at P [] i d h u = absurd (omega arith)
codes_at P (t ∷ ts) zero d h u = u.0
codes_at P (t ∷ ts) (suc i) d h u = codes_at P ts i d (omega arith) u.1

pub codes_front : {M : Type 0} (P : ℕ → Type 0) (ss ts : List (Term M)) → Codes P (ss ++ ts) → Codes P ss
codes_front P [] ts u = tt
codes_front P (s ∷ ss) ts u = (u.0, codes_front P ss ts u.1)

pub codes_back : {M : Type 0} (P : ℕ → Type 0) (ss ts : List (Term M)) → Codes P (ss ++ ts) → Codes P ts
codes_back P [] ts u = u
codes_back P (s ∷ ss) ts u = codes_back P ss ts u.1

module _ (m : FieldData) (l : FieldLaws m) where
  abbrev q : ℕ
  q = size m

  abbrev t : FieldData
  t = total m

  val_below : (xs : List ℕ) (ts : List (Term (List ℕ))) → card_value t ts xs < q
  val_below xs [] = pow_pos m.width
  val_below xs (s ∷ ts) = xor_lt m.width (product m s.code (row_power t s.mono xs)) (card_value t ts xs) (product_below m l s.code (row_power t s.mono xs)) (val_below xs ts)

  -- the value by the product at all numbers is the value
  same_val : (n : ℕ) (xs : List ℕ) → IsInput m n xs → (ts : List (Term (List ℕ))) → Codes (λ c. c < q) ts → card_value m ts xs ≡ card_value t ts xs
  same_val n xs h ts u = value_plain m ts xs ∙ sym (value_same m l (plain ts) xs 3 (codes_plain (λ c. c < q) ts u) (own_row m n xs h)) ∙ sym (value_plain t ts xs)

  module _ (n : ℕ) where
    abbrev k : KindModel (List ℕ)
    k = card_kind m n

    L : KindLaws k
    L = exp_laws (tops_for q n) refl

    -- a code added with the unit
    code_gained : (bits : List (Term NetSet)) (i : ℕ) (d : Term NetSet) → i < length bits → Codes (λ c. c < q) bits → (ts₀ ts us : List (Term (List ℕ))) → Gained m k 0 (take i bits) ts₀ ts
        → us ≡ added k (get_or bits i d).code k.unit ts → Gained m k 0 (take (i + 1) bits) ts₀ us
    unfolding every
    code_gained bits i d h u ts₀ ts us g e =
        let c = (get_or bits i d).code in
        let small : c < q = codes_at (λ c. c < q) bits i d h u in
        let codes : Codes (λ c. c < q) us = subst (Codes (λ c. c < q)) (sym e) (added_codes k L (λ c. c < q) c k.unit (λ a b x y. xor_lt m.width a b x y) small ts g.own.codes) in
        record {
          own = record { rows = subst (Monos (λ r. k.own r ≡ true)) (sym e) (added_monos k L (λ r. k.own r ≡ true) c k.unit L.unit_own ts g.own.rows); codes = codes };
          values = λ xs x.
              let f = (λ (c : ℕ) (r : List ℕ). product m c (row_power t r xs)) in
              let v = bit_at m.width xs in
              let w = (λ (c : ℕ) (s : NetSet). cond (on_below 0 v s) c 0) in
              let a = value_below 0 v (take i bits) in
              let b = card_value m ts₀ xs in
              let one : f c k.unit ≡ c = ap (product m c) (unit_power m l 3 xs) ∙ by_one m l c small in
              same_val n xs x us codes
              ∙ ap (λ (z : List (Term (List ℕ))). card_value t z xs) e
              ∙ value_added (λ c. c < q) f (λ a b r _ _. product_dist_r m l a b (row_power t r xs)) k L c k.unit small ts g.own.codes
              ∙ ap₂ bit_xor one (sym (same_val n xs x ts g.own.codes) ∙ g.values xs x)
              ∙ sym (xor_assoc c a b) ∙ ap (λ (z : ℕ). bit_xor z b) (xor_comm c a ∙ ap (bit_xor a) (sym (xor_zero_r c)) ∙ sym (value_append w (take i bits) (get_or bits i d ∷ []))
              ∙ ap (value_below 0 v) (sym (take_more bits i d h)));
        }

    -- the terms under a net, multiplied by its sum
    product_gained : (few : n ≤ 3) (sums : List (Term (List ℕ))) (b : BitSums m n sums) (p : ℕ) → p < n * m.width → (cap : ℕ) (bits : List (Term NetSet)) → Monos (λ s. holds s p ≡ true) bits
        → (is ts us : List (Term (List ℕ))) → Gained m k p bits [] is → OwnTerms m k ts → adding k cap (all_products k (product m) is (block m.width sums p)) ts ≡ done us → Gained m k (suc p) bits ts us
    product_gained few sums b p h cap bits held is ts us g o e =
        let f = block m.width sums p in
        let own_f : Monos (λ r. k.own r ≡ true) f = monos_take (λ r. k.own r ≡ true) m.width _ (monos_drop (λ r. k.own r ≡ true) (p * m.width) sums b.own) in
        let adds = all_products k (product m) is f in
        let codes : Codes (λ c. c < q) us = (adding_value m l k L [] cap adds ts us (all_codes m l k is f) o.codes e).1 in
        record {
          own = record { rows = adding_monos k L (product m) (λ r. k.own r ≡ true) cap adds ts us (all_own k L (product m) is f g.own.rows own_f) o.rows e; codes = codes };
          values = λ xs x.
              same_val n xs x us codes ∙ (adding_value m l k L xs cap adds ts us (all_codes m l k is f) o.codes e).0
              ∙ ap₂ bit_xor (all_value m l n xs x is f g.own.rows own_f ∙ under xs x) (sym (same_val n xs x ts o.codes));
        }
      where
        wp : 0 < m.width
        wp = let h = l.narrow in omega arith

        under : (xs : List ℕ) → IsInput m n xs → product m (card_value t is xs) (card_value t (block m.width sums p) xs) ≡ value_below (suc p) (bit_at m.width xs) bits
        under xs x =
            let v = bit_at m.width xs in
            let f = block m.width sums p in
            let w = p / m.width in
            let i = p % m.width in
            let inner : card_value t is xs ≡ value_below p v bits = sym (same_val n xs x is g.own.codes) ∙ g.values xs x ∙ xor_zero_r (value_below p v bits) in
            let word : w < 3 = (let a : w < n = (div-lt_iff_lt-mul wp).1 h in omega arith) in
            let factor : card_value t f xs ≡ cond (v p) m.one 0 =
            ap (λ (z : List (Term (List ℕ))). card_value t z xs) (block_is m.width (n * m.width) (λ p. bit_term m (p / m.width) (b.dual (p % m.width))) sums (whole m l n sums few b) (bit_here m l n sums few b) p h)
            ∙ bit_value m l n xs x p (b.dual i) word (b.duals i (mod-lt p wp)) in
            ap (product m (card_value t is xs)) factor
            ∙ ⊎_elim
            (λ (e : v p ≡ true). ap (product m (card_value t is xs)) (cond-true (v p) m.one 0 e) ∙ by_one m l (card_value t is xs) (val_below xs is) ∙ inner ∙ sym (value_on v p bits held e))
            (λ (e : v p ≡ false). ap (product m (card_value t is xs)) (cond-false (v p) m.one 0 e) ∙ product_zero m l (card_value t is xs) ∙ sym (value_off v p bits held e))
            (cases_Bool (v p))

-- what is gained is gained in one way only
codes_prop : {M : Type 0} (b : ℕ) (ts : List (Term M)) → IsProp (Codes (λ c. c < b) ts)
codes_prop b [] = Unit-prop
codes_prop b (t ∷ ts) = ×_prop le_prop (codes_prop b ts)

gained_prop : (m : FieldData) (k : KindModel (List ℕ)) (p : ℕ) (bits : List (Term NetSet)) (ts us : List (Term (List ℕ))) → IsProp (Gained m k p bits ts us)
gained_prop m k p bits ts us x y = λ i. record {
  own = record { rows = Owned-prop k us x.own.rows y.own.rows i; codes = codes_prop (size m) us x.own.codes y.own.codes i };
  values = λ xs h. ℕ_set _ _ (x.values xs h) (y.values xs h) i;
}

-- the same for a kind that is that of the rows of n words
pub gained_code : (m : FieldData) (l : FieldLaws m) (k : KindModel (List ℕ)) (n : ℕ) → k ≡ card_kind m n → (bits : List (Term NetSet)) (i : ℕ) (d : Term NetSet) → i < length bits
    → Codes (λ c. c < size m) bits → (ts₀ ts us : List (Term (List ℕ))) → Gained m k 0 (take i bits) ts₀ ts → us ≡ added k (get_or bits i d).code k.unit ts → Gained m k 0 (take (i + 1) bits) ts₀ us
gained_code m l k n e bits i d h u ts₀ ts us =
    subst (λ (k : KindModel (List ℕ)). Gained m k 0 (take i bits) ts₀ ts → us ≡ added k (get_or bits i d).code k.unit ts → Gained m k 0 (take (i + 1) bits) ts₀ us)
    (sym e) (code_gained m l n bits i d h u ts₀ ts us)

-- what the terms cs that hold net p gain: they were worked to the terms is in an empty table, and those were multiplied by the factor of the net
module _ (m : FieldData) (l : FieldLaws m) (k : KindModel (List ℕ)) (n : ℕ) (few : n ≤ 3) (kind : k ≡ card_kind m n) (f : Factors (List ℕ)) (width : f.width ≡ m.width) (places : f.places ≡ n * m.width) (B : ∥ BitSums m n f.sums.now ∥₁) where
  by_sums : (p : ℕ) → p < f.places → (cap : ℕ) (cs : List (Term NetSet)) → Monos (λ s. holds s p ≡ true) cs → (is ts us : List (Term (List ℕ))) → Gained m k p cs [] is → OwnTerms m k ts
      → adding k cap (all_products k (product m) is (block f.width f.sums.now p)) ts ≡ done us → Gained m k (suc p) cs ts us
  by_sums p h cap cs held is ts us g o e =
      let sums = f.sums.now in
      ∥∥₁_elim B (gained_prop m k (suc p) cs ts us) (λ (b : BitSums m n sums).
      subst (λ (w : ℕ). Gained m k p cs [] is → OwnTerms m k ts → adding k cap (all_products k (product m) is (block w sums p)) ts ≡ done us → Gained m k (suc p) cs ts us) (sym width)
      (subst (λ (k : KindModel (List ℕ)). Gained m k p cs [] is → OwnTerms m k ts → adding k cap (all_products k (product m) is (block m.width sums p)) ts ≡ done us → Gained m k (suc p) cs ts us)
      (sym kind) (product_gained m l n few sums b p (subst (λ z. p < z) places h) cap cs held is ts us)) g o e)

  pub gained_product : {T E : Type 0} (p : ℕ) → p < f.places → (cap : ℕ) (cs : List (Term NetSet)) → Monos (λ s. holds s p ≡ true) cs → (zs is ts us fs : List (Term (List ℕ))) → zs ≡ [] → Gained m k p cs zs is
      → OwnTerms m k ts → fs ≡ block f.width f.sums.now p → (r : Result T E) → Reached (adding k cap (all_products k (product m) is fs) ts) us us r → IfOk r (λ _. Gained m k (p + 1) cs ts us)
  gained_product p h cap cs held zs is ts us fs ez g o ef (Ok x) e =
      let up : suc p ≡ p + 1 = omega arith in
      subst (λ (i : ℕ). Gained m k i cs ts us) up (by_sums p h cap cs held is ts us (subst (λ (z : List (Term (List ℕ))). Gained m k p cs z is) ez g) o
      (subst (λ (z : List (Term (List ℕ))). adding k cap (all_products k (product m) is z) ts ≡ done us) ef e))
  gained_product p h cap cs held zs is ts us fs ez g o ef (Err x) e = tt

-- nothing is gained by no terms
pub gained_none : (m : FieldData) (k : KindModel (List ℕ)) (p : ℕ) (cs : List (Term NetSet)) → length cs ≡ 0 → (ts : List (Term (List ℕ))) → OwnTerms m k ts → Gained m k p cs ts ts
gained_none m k p [] e ts o = record { own = o; values = λ xs x. refl }
gained_none m k p (c ∷ cs) e ts o = absurd (omega arith)

-- what the terms that hold a net gain, and then those that lack it
pub gained_both : (m : FieldData) (k : KindModel (List ℕ)) (p : ℕ) (cs bs : List (Term NetSet)) → Monos (λ s. holds s p ≡ false) bs → (ts us vs : List (Term (List ℕ)))
    → Gained m k (suc p) cs ts us → Gained m k p bs us vs → Gained m k (suc p) (cs ++ bs) ts vs
gained_both m k p cs bs lack ts us vs g h = record {
  own = h.own;
  values = λ xs x.
      let v = bit_at m.width xs in
      let a = value_below (suc p) v cs in
      let b = value_below p v bs in
      let c = card_value m ts xs in
      h.values xs x ∙ ap (bit_xor b) (g.values xs x) ∙ sym (xor_assoc b a c)
      ∙ ap (λ (z : ℕ). bit_xor z c) (xor_comm b a ∙ ap (bit_xor a) (sym (value_without v p bs lack)) ∙ sym (value_append (λ c s. cond (on_below (suc p) v s) c 0) cs bs));
}

-- the same of a call that goes on with those that lack it
pub gained_then : {T E : Type 0} (m : FieldData) (k : KindModel (List ℕ)) (net p : ℕ) → net + 1 ≡ p → (bits cs bs : List (Term NetSet)) → ByNet net bits cs bs → (ts us vs : List (Term (List ℕ)))
    → Gained m k (net + 1) cs ts us → (r : Result T E) → IfOk r (λ _. Gained m k net bs us vs) → IfOk r (λ _. Gained m k p bits ts vs)
gained_then m k net p up bits cs bs parts ts us vs first (Ok x) h =
    let next : suc net ≡ p = omega arith in
    let one : net + 1 ≡ suc net = omega arith in
    let both = gained_both m k net cs bs parts.lacked ts us vs (subst (λ (i : ℕ). Gained m k i cs ts us) one first) h in
    subst (λ (i : ℕ). Gained m k i bits ts vs) next (subst (λ (z : List (Term NetSet)). Gained m k (suc net) z ts vs) (sym parts.whole) both)
gained_then m k net p up bits cs bs parts ts us vs first (Err e) h = tt
