-- The input of the least difference is the first at which the values of two bit forms differ. Assumes nothing.
use Rattle.std.proofs.Common.{◌≡◌, ℕ, ◌*◌, ◌<◌, ◌≤◌, Bool, true, false, cond, not, ◌&&◌, ◌⊎◌, List, [], ◌∷◌, get_or, sym, refl, ap, ◌∙◌, ap₂, inl, inr, ⊎_elim, arith}
use lib.Bits.{bit_xor, xor_zero_l, xor_self}
use Rattle.std.proofs.lemmas.Bool.{cases_Bool, cases_eq, cases_lt, true≢false}
use Rattle.terms.specs.Counts.{nets_in, weight, rank}
use Rattle.terms.specs.Forms.{Form}
use Rattle.terms.specs.Nets.{net_model}
use Rattle.terms.specs.Sets.{holds, Own, Within}
use Rattle.terms.specs.Terms.{Falling, Nonzero, Monos, coeff, same}
use Rattle.terms.specs.Values.{set_on, value_under, bit_at}
use Rattle.terms.specs.declared.Term.{Term}
use Rattle.terms.specs.declared.nets.NetSet.{NetSet}
use Rattle.terms.specs.BothKinds.{net_laws}
use Rattle.terms.proofs.Laws.{coeff_head, xor_cancel}
use Rattle.terms.proofs.Members.{number, less_number, number_less}
use Rattle.terms.proofs.Sole.{least, least_of, least_code, value_least, set_on_self, sums, sums_value, sums_coeff, sums_monos, sums_form, none_same}
use Rattle.terms.proofs.Subsets.{first_word}
use Rattle.forms.specs.Differences.{Occurs, LeastDifference}
use Rattle.forms.specs.Inputs.{Input, InputOf}
use Rattle.forms.specs.Theorems.{TwoForms, SameAt, FirstApart, DifferenceLaws}
use Rattle.forms.proofs.Packed.{words_of, words_input}
use Rattle.forms.proofs.Rows.{same_not, under_occurs, taken_head}
use Rattle.forms.proofs.Walk.{occurs_has}
use Rattle.forms.proofs.Weights.{input_long, input_below, covered_weight, covered_rank, all_bits, weight_nets, rank_number}

-- ---- sums by XOR
xor_same : (a b : ℕ) → bit_xor a b ≡ 0 → b ≡ a
xor_same a b e = xor_cancel a b a (e ∙ sym (xor_self a))

-- ---- terms at a point
-- a value that is not 0 has a term whose set holds only one bits
some_on : (v : ℕ → Bool) (ts : List (Term NetSet)) → (value_under v ts ≡ 0) ⊎ ((t : NetSet) × Occurs t ts × (set_on v t ≡ true))
some_on v [] = inl refl
some_on v (t ∷ ts) =
    ⊎_elim
    (λ e. inr (t.mono, inl refl, e))
    (λ e. ⊎_elim
    (λ z. inl (ap (λ b. bit_xor (cond b t.code 0) (value_under v ts)) e ∙ xor_zero_l (value_under v ts) ∙ z))
    (λ r. inr (r.0, inr r.1, r.2))
    (some_on v ts))
    (cases_Bool (set_on v t.mono))

-- where one set alone holds only one bits, the value is its code
value_alone : (v : ℕ → Bool) (s : NetSet) (ts : List (Term NetSet)) → ((t : NetSet) → Occurs t ts → set_on v t ≡ same net_model s t) → value_under v ts ≡ coeff net_model s ts
value_alone v s [] f = refl
value_alone v s (t ∷ ts) f = ap₂ (λ b x. bit_xor (cond b t.code 0) x) (f t.mono (inl refl)) (value_alone v s ts (λ x o. f x (inr o)))

-- a set that stands in a term has a code
has_code : (ts : List (Term NetSet)) → Falling net_model ts → Nonzero ts → (t : NetSet) → Occurs t ts → coeff net_model t ts ≡ 0 → ⊥
has_code [] f n t o e = o
has_code (x ∷ ts) f n t (inl q) e =
    let z : x.code ≡ 0 = sym (coeff_head net_model net_laws x ts f.0) ∙ ap (λ s. coeff net_model s (x ∷ ts)) (sym q) ∙ e in
    let p = n.0 in
    omega arith
has_code (x ∷ ts) f n t (inr o) e =
    let other : t ≡ x.mono → ⊥ = λ q. true≢false (sym (under_occurs x.mono ts f.0 t o) ∙ ap (λ s. net_model.less s x.mono) q ∙ net_laws.less_irrefl x.mono) in
    has_code ts f.1 n.1 t o (sym ((taken_head x ts f).others t other) ∙ e)

module _ (k n : ℕ) (us vs : List (Term NetSet)) (two : TwoForms k n us vs) where
  -- the sum of the two forms
  abbrev both : List (Term NetSet)
  both = sums vs us

  form : Form both
  form = sums_form vs us two.right.form.own two.left.form

  within : Monos (Within (n * k)) both
  within = sums_monos (Within (n * k)) vs us two.right.within two.left.within

  -- a set of the sum tells the codes apart
  told : (t : NetSet) → Occurs t both → coeff net_model t us ≡ coeff net_model t vs → ⊥
  told t o e = has_code both form.falling form.nonzero t o (sums_coeff t vs us ∙ ap (bit_xor (coeff net_model t vs)) e ∙ xor_self (coeff net_model t vs))

  same_value : (y : List ℕ) → SameAt k us vs y → value_under (bit_at k y) both ≡ 0
  same_value y e = sums_value (bit_at k y) vs us ∙ ap (bit_xor (value_under (bit_at k y) vs)) e ∙ xor_self (value_under (bit_at k y) vs)

  value_same : (y : List ℕ) → value_under (bit_at k y) both ≡ 0 → SameAt k us vs y
  value_same y e = xor_same (value_under (bit_at k y) vs) (value_under (bit_at k y) us) (sym (sums_value (bit_at k y) vs us) ∙ e)

  module _ (s : NetSet) (x : List ℕ) (d : LeastDifference us vs s) (i : InputOf k s x) where
    in_words : Within (n * k) s
    in_words = ⊎_elim (occurs_has (Within (n * k)) us two.left.within s) (occurs_has (Within (n * k)) vs two.right.within s) d.occurs

    bits : (g : ℕ) → bit_at k x g ≡ holds s g
    bits = all_bits k n two.width two.few s d.own in_words x i

    weighs : weight x ≡ nets_in s
    weighs = weight_nets k n two.width two.few s d.own in_words x i

    ranks : rank k x ≡ number s
    ranks = rank_number k n two.width two.few s d.own in_words x i

    -- a set no lower in the order makes no lower number
    up : (t : NetSet) → Own t → net_model.less t s ≡ false → number s ≤ number t
    up t o f = ⊎_elim (λ l. absurd (true≢false (sym (less_number t s o d.own l) ∙ f))) (λ l. l) (cases_lt (number t) (number s))

    first : (y : List ℕ) → Input k n y → (SameAt k us vs y → ⊥) → (weight x < weight y) ⊎ ((weight x ≡ weight y) × (rank k x ≤ rank k y))
    first y h e = ⊎_elim (λ z. absurd (e (value_same y z))) (λ r. go r.0 r.1 r.2) (some_on (bit_at k y) both)
      where
        go : (t : NetSet) → Occurs t both → set_on (bit_at k y) t ≡ true → (weight x < weight y) ⊎ ((weight x ≡ weight y) × (rank k x ≤ rank k y))
        go t o on =
            let own = occurs_has Own both form.own t o in
            let a = covered_weight k two.width y (input_long k n y h) (input_below k n y h) t own on in
            let b = covered_rank k two.width y (input_long k n y h) (input_below k n y h) t own on in
            let c = weighs in
            ⊎_elim
            (λ l. inl (omega arith))
            (λ l.
            let p = l.0 in
            let q = up t own l.1 in
            let r = ranks in
            ⊎_elim (λ e. inr (e, omega arith)) (λ e. inl (omega arith)) (cases_eq (weight x) (weight y)))
            (d.least t (told t o))

    -- at x the set s alone holds only one bits
    alone : (t : NetSet) → Occurs t both → set_on (bit_at k x) t ≡ same net_model s t
    alone t o = ⊎_elim yes_on no_on (cases_Bool (set_on (bit_at k x) t))
      where
        yes_on : set_on (bit_at k x) t ≡ true → set_on (bit_at k x) t ≡ same net_model s t
        yes_on on =
            let own = occurs_has Own both form.own t o in
            let a = covered_weight k two.width x i.long i.below t own on in
            let b = covered_rank k two.width x i.long i.below t own on in
            let c = weighs in
            let r = ranks in
            ⊎_elim
            (λ l. absurd (omega arith))
            (λ l. on ∙ sym (ap₂ (λ p q. not p && not q) (⊎_elim (λ e. absurd (let z = number_less s t d.own own e in omega arith)) (λ f. f) (cases_Bool (net_model.less s t))) l.1))
            (d.least t (told t o))

        no_on : set_on (bit_at k x) t ≡ false → set_on (bit_at k x) t ≡ same net_model s t
        no_on off = off ∙ sym (same_not s t (λ q. true≢false (sym (set_on_self s) ∙ (λ j. set_on (λ g. sym (bits g) j) s) ∙ ap (set_on (bit_at k x)) q ∙ off)))

    apart : SameAt k us vs x → ⊥
    apart e = d.apart (xor_same (coeff net_model s vs) (coeff net_model s us) (sym (sums_coeff s vs us) ∙ sym (value_alone (bit_at k x) s both alone) ∙ same_value x e))

    pub first_apart : FirstApart k n us vs x × (weight x ≡ nets_in s)
    first_apart = (record { input = i.input n in_words; apart = apart; first = first }, weighs)

  -- forms with the same values are one
  pub one_form : ((x : List ℕ) → Input k n x → SameAt k us vs x) → us ≡ vs
  one_form h = none_same us vs two.left.form two.right.form (go both form within (λ x i. same_value x (h x i)))
    where
      go : (ts : List (Term NetSet)) → Form ts → Monos (Within (n * k)) ts → ((x : List ℕ) → Input k n x → value_under (bit_at k x) ts ≡ 0) → ts ≡ []
      go [] f w z = refl
      go (t ∷ ts) f w z =
          let m = (least t ts).mono in
          let in_words = least_of (Within (n * k)) t ts w in
          let x = words_of k (get_or m.words 0 0) in
          let i = words_input k two.width m (get_or m.words 0 0) (first_word m.words) in
          let bits = all_bits k n two.width two.few m (least_of Own t ts f.own) in_words x i in
          let e : (least t ts).code ≡ 0 = sym (value_least t ts f.own f.falling) ∙ (λ j. value_under (λ g. sym (bits g) j) (t ∷ ts)) ∙ z x (i.input n in_words) in
          absurd (let p = least_code t ts f.nonzero in omega arith)

pub difference_laws : DifferenceLaws
difference_laws = record {
  first = λ k n us vs two s x d i. first_apart k n us vs two s x d i;
  same = λ k n us vs two. (λ e x i. ap (value_under (bit_at k x)) e, one_form k n us vs two);
}
