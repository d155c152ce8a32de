-- The bit form and the card of a filing. Assumes nothing.
use Rattle.std.proofs.Common.{◌≡◌, ℕ, ◌*◌, ◌/◌, ◌%◌, ◌^◌, ◌<◌, ◌≤◌, eqb, List, length, take, sym, ap, ◌∙◌, subst, div-lt_iff_lt-mul, arith, length-take-le, get_or-take}
use Rattle.algebra.specs.Field.{FieldData, FieldLaws, size}
use Rattle.terms.specs.Exps.{tops_for}
use Rattle.terms.specs.Sets.{Within}
use Rattle.terms.specs.Terms.{Codes, Monos}
use Rattle.terms.specs.Values.{value_under, bit_at}
use Rattle.terms.specs.declared.Term.{Term}
use Rattle.terms.specs.declared.nets.NetSet.{NetSet}
use Rattle.terms.specs.BothKinds.{inside_length}
use Rattle.terms.proofs.Sole.{same_forms}
use Rattle.terms.proofs.Values.{value_at_agree}
use Rattle.netlist.specs.Circuits.{Circuit, WellFormed, inputs}
use Rattle.netlist.specs.Meaning.{output_at}
use Rattle.netlist.specs.Refusals as reader
use Rattle.gates.specs.Forms.{BitForm as CircuitForm}
use Rattle.gates.proofs.Ends.{value_at_words}
use Rattle.cards.specs.Law.{IsInput, BitForm, CardOf, FormOf}
use Rattle.cards.proofs.FormLaw.{with_bits, with_bits_input, with_bits_at}
use Rattle.ledger.specs.Filings.{Filing, text, rows, output, IsForm, IsCard}

-- the bit form's value at three numbers, of which the first are the circuit's words
pub form_outputs : (c : Circuit) (us : List (Term NetSet)) (k : ℕ) (xs : List ℕ) → c.width ≡ k → WellFormed c → CircuitForm c us → length xs ≡ 3
    → value_under (bit_at k xs) us ≡ output_at c (take c.words xs)
form_outputs c us k xs e w b l =
    let some : 0 < c.width = let r = w.range.some_bits in omega arith in
    let few : c.words ≤ length xs = let r = w.range.few_words in omega arith in
    ap (λ (j : ℕ). value_under (bit_at j xs) us) (sym e)
    ∙ value_at_agree (bit_at c.width xs) (bit_at c.width (take c.words xs)) (inputs c)
    (λ i h. ap (λ (x : ℕ). eqb (x / 2 ^ (i % c.width) % 2) 1) (sym (get_or-take c.words xs (i / c.width) 0 ((div-lt_iff_lt-mul some).1 h)))) us b.no_gate
    ∙ value_at_words c us (take c.words xs) w b (length-take-le c.words xs few)

module _ (m : FieldData) (l : FieldLaws m) (n : ℕ) (few : n ≤ 3) where
  wp : 0 < m.width
  wp = let h = l.narrow in omega arith

  -- bit forms that agree at every input are one list
  pub same_values : (us vs : List (Term NetSet)) → BitForm m n us → BitForm m n vs → ((xs : List ℕ) → IsInput m n xs → value_under (bit_at m.width xs) us ≡ value_under (bit_at m.width xs) vs) → us ≡ vs
  same_values us vs a b h =
      same_forms us vs (record { own = a.sets; falling = a.falling; nonzero = a.nonzero }) (record { own = b.sets; falling = b.falling; nonzero = b.nonzero })
      (λ v.
      let x = with_bits m.width n wp few v in
      let at = with_bits_at m.width n wp few v in
      value_at_agree v (bit_at m.width x) (n * m.width) at us a.terms.within ∙ h x (with_bits_input m.width n wp few v)
      ∙ sym (value_at_agree v (bit_at m.width x) (n * m.width) at vs b.terms.within))

  -- a bit form with the filed output is the bit form of the filing
  pub is_form : (f : Filing) (us : List (Term NetSet)) → BitForm m n us → ((xs : List ℕ) → IsInput m n xs → value_under (bit_at m.width xs) us ≡ output m n f xs) → IsForm m n f us
  is_form f us b h = record { bit_form = b; values = h; only = λ vs c k. same_values vs us c b (λ xs i. k xs i ∙ sym (h xs i)) }

  -- what the gates' working ends in is the bit form of the text
  pub text_form : (bytes : List ℕ) (c : Circuit) (us : List (Term NetSet)) → reader.Accepted n m.width bytes c → CircuitForm c us → IsForm m n (text c) us
  text_form bytes c us a b = is_form (text c) us (record {
    terms = record { codes = subst (λ (k : ℕ). Codes (λ x. x < 2 ^ k) us) a.width b.codes; within = subst (λ (i : ℕ). Monos (Within i) us) places b.no_gate };
    nonzero = b.nonzero;
    sets = b.own;
    falling = b.falling;
  }) (λ xs i. form_outputs c us m.width xs a.width a.formed b (inside_length (tops_for (size m) n) xs i) ∙ ap (λ (j : ℕ). output_at c (take j xs)) a.words)
    where
      places : inputs c ≡ n * m.width
      places = ap (λ (i : ℕ). i * c.width) a.words ∙ ap (λ (k : ℕ). n * k) a.width

module _ (m : FieldData) (n : ℕ) where
  -- what the working of card rows ends in is their bit form
  pub rows_form : (ts : List (Term (List ℕ))) (us : List (Term NetSet)) → FormOf m n ts us → IsForm m n (rows ts) us
  rows_form ts us f = record { bit_form = f.bit_form; values = f.values; only = f.only }

  -- a filing has one bit form
  pub one_bit_form : (f : Filing) (us vs : List (Term NetSet)) → IsForm m n f us → IsForm m n f vs → us ≡ vs
  one_bit_form f us vs a b = b.only us a.bit_form a.values

  -- the card of its bit form is the card of the filing
  pub form_card : (f : Filing) (us : List (Term NetSet)) (ts : List (Term (List ℕ))) → IsForm m n f us → CardOf m n us ts → IsCard m n f ts
  form_card f us ts a c = record {
    polynomial = c.polynomial;
    values = λ xs i. c.values xs i ∙ a.values xs i;
    only = λ vs p h. c.only vs p (λ xs i. h xs i ∙ sym (a.values xs i));
  }
