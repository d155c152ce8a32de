-- Terms of net sets are fixed by their values: terms whose value is always 0 are none, since at the nets of the least set the value is that set's code. Assumes nothing.
use Rattle.std.proofs.Common.{◌≡◌, ℕ, ◌<◌, Bool, true, false, cond, not, ◌&&◌, ◌||◌, eqb, List, [], ◌∷◌, sym, refl, ap, ◌∙◌, arith}
use Rattle.std.proofs.Math.Bool.{and-false}
use lib.Bits.{bit_xor, xor_zero_l, xor_zero_r, xor_self}
use Rattle.terms.specs.Forms.{Form}
use Rattle.terms.specs.Nets.{net_model}
use Rattle.terms.specs.Sets.{holds, Own}
use Rattle.terms.specs.Terms.{added, coeff, same, Monos, Falling, Under, Nonzero}
use Rattle.terms.specs.Values.{every, set_on, value_under}
use Rattle.terms.specs.declared.Term.{Term}
use Rattle.terms.specs.declared.nets.NetSet.{NetSet}
use Rattle.terms.specs.BothKinds.{net_laws}
use Rattle.terms.proofs.Laws.{added_monos, added_falling, added_nonzero, coeff_added, unique, xor_cancel}
use Rattle.terms.proofs.Members.{laws_of_sets}
use Rattle.terms.proofs.Values.{every_all, on_split, xor_turn, value_at_added}

-- ---- the least set
abbrev pub least : Term NetSet → List (Term NetSet) → Term NetSet
least t [] = t
least t (u ∷ us) = least u us

least_under : (s : NetSet) (t : Term NetSet) (ts : List (Term NetSet)) → Under net_model s (t ∷ ts) → net_model.less (least t ts).mono s ≡ true
least_under s t [] u = u.0
least_under s t (x ∷ ts) u = least_under s x ts u.1

pub least_of : (P : NetSet → Type 0) (t : Term NetSet) (ts : List (Term NetSet)) → Monos P (t ∷ ts) → P (least t ts).mono
least_of P t [] m = m.0
least_of P t (x ∷ ts) m = least_of P x ts m.1

pub least_code : (t : Term NetSet) (ts : List (Term NetSet)) → Nonzero (t ∷ ts) → 0 < (least t ts).code
least_code t [] n = n.0
least_code t (x ∷ ts) n = least_code x ts n.1

-- a set has all of its nets
or_self : (b : Bool) → (not b || b) ≡ true
or_self true = refl
or_self false = refl

pub set_on_self : (s : NetSet) → set_on (holds s) s ≡ true
set_on_self s = every_all 256 (λ g. not (holds s g) || holds s g) (λ g. or_self (holds s g))

-- a greater set has a net more
greater_off : (s t : NetSet) → Own s → Own t → net_model.less s t ≡ true → set_on (holds s) t ≡ false
greater_off s t os ot l =
    let r = (laws_of_sets.order s t os ot).0 l in
    let g = r.0 in
    let few = laws_of_sets.few t ot g r.1.has in
    let rest = every 256 (λ h. not (holds t h && not (eqb h g)) || holds s h) in
    on_split 256 (holds s) (holds t) g few r.1.has ∙ ap (λ b. rest && b) r.1.lacks ∙ and-false rest

-- at the nets of its least set a form is the code of that set
pub value_least : (t : Term NetSet) (ts : List (Term NetSet)) → Monos Own (t ∷ ts) → Falling net_model (t ∷ ts) → value_under (holds (least t ts).mono) (t ∷ ts) ≡ (least t ts).code
value_least t [] o f = xor_zero_r (cond (set_on (holds t.mono) t.mono) t.code 0) ∙ ap (λ b. cond b t.code 0) (set_on_self t.mono)
value_least t (x ∷ ts) o f =
    let m = (least x ts).mono in
    ap (λ b. bit_xor (cond b t.code 0) (value_under (holds m) (x ∷ ts))) (greater_off m t.mono (least_of Own x ts o.1) o.0 (least_under t.mono x ts f.0))
    ∙ xor_zero_l (value_under (holds m) (x ∷ ts))
    ∙ value_least x ts o.1 f.1

-- ---- sums of lists of terms
abbrev pub sums : List (Term NetSet) → List (Term NetSet) → List (Term NetSet)
sums [] ts = ts
sums (t ∷ adds) ts = sums adds (added net_model t.code t.mono ts)

pub sums_value : (v : ℕ → Bool) (adds ts : List (Term NetSet)) → value_under v (sums adds ts) ≡ bit_xor (value_under v adds) (value_under v ts)
sums_value v [] ts = sym (xor_zero_l (value_under v ts))
sums_value v (t ∷ adds) ts =
    sums_value v adds (added net_model t.code t.mono ts)
    ∙ ap (bit_xor (value_under v adds)) (value_at_added v t.code t.mono ts)
    ∙ xor_turn (value_under v adds) (cond (set_on v t.mono) t.code 0) (value_under v ts)

pub sums_coeff : (x : NetSet) (adds ts : List (Term NetSet)) → coeff net_model x (sums adds ts) ≡ bit_xor (coeff net_model x adds) (coeff net_model x ts)
sums_coeff x [] ts = sym (xor_zero_l (coeff net_model x ts))
sums_coeff x (t ∷ adds) ts =
    sums_coeff x adds (added net_model t.code t.mono ts)
    ∙ ap (bit_xor (coeff net_model x adds)) (coeff_added net_model net_laws t.code t.mono x ts)
    ∙ xor_turn (coeff net_model x adds) (cond (same net_model x t.mono) t.code 0) (coeff net_model x ts)

pub sums_monos : (P : NetSet → Type 0) (adds ts : List (Term NetSet)) → Monos P adds → Monos P ts → Monos P (sums adds ts)
sums_monos P [] ts o m = m
sums_monos P (t ∷ adds) ts o m = sums_monos P adds (added net_model t.code t.mono ts) o.1 (added_monos net_model net_laws P t.code t.mono o.0 ts m)

pub sums_form : (adds ts : List (Term NetSet)) → Monos Own adds → Form ts → Form (sums adds ts)
sums_form [] ts o f = f
sums_form (t ∷ adds) ts o f =
    sums_form adds (added net_model t.code t.mono ts) o.1 (record {
      own = added_monos net_model net_laws Own t.code t.mono o.0 ts f.own;
      falling = added_falling net_model net_laws t.code t.mono ts f.falling;
      nonzero = added_nonzero net_model net_laws t.code t.mono ts f.nonzero;
    })

zero_form : (ts : List (Term NetSet)) → Form ts → ((v : ℕ → Bool) → value_under v ts ≡ 0) → ts ≡ []
zero_form [] f z = refl
zero_form (t ∷ ts) f z =
    let e : (least t ts).code ≡ 0 = sym (value_least t ts f.own f.falling) ∙ z (holds (least t ts).mono) in
    absurd (let h = least_code t ts f.nonzero in omega arith)

-- forms whose sum has no term are one
pub none_same : (us vs : List (Term NetSet)) → Form us → Form vs → sums vs us ≡ [] → us ≡ vs
none_same us vs f g none =
    unique net_model net_laws us vs f.falling g.falling f.nonzero g.nonzero
    (λ x. xor_cancel (coeff net_model x vs) (coeff net_model x us) (coeff net_model x vs)
    (sym (sums_coeff x vs us) ∙ ap (coeff net_model x) none ∙ sym (xor_self (coeff net_model x vs))))

pub same_forms : (us vs : List (Term NetSet)) → Form us → Form vs → ((v : ℕ → Bool) → value_under v us ≡ value_under v vs) → us ≡ vs
same_forms us vs f g h =
    none_same us vs f g (zero_form (sums vs us) (sums_form vs us g.own f) (λ v. sums_value v vs us ∙ ap (bit_xor (value_under v vs)) (h v) ∙ xor_self (value_under v vs)))
