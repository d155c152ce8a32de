-- What is worked in nested form is what the working ends in. Assumes nothing.
use Rattle.std.proofs.Common.{◌≡◌, ℕ, ◌*◌, ◌<◌, ◌≤◌, Bool, true, cond, not, ◌||◌, List, [], ◌∷◌, take, Ok, Err, Result, IfOk, sym, refl, ap, ◌∙◌, subst, ap₂, mul-le-mul, arith}
use lib.Bits.{bit_xor, xor_zero_r}
use Rattle.std.specs.Result.{result_ok}
use Rattle.algebra.specs.Codes.{Dual}
use Rattle.algebra.specs.Field.{FieldData, FieldLaws}
use Rattle.convert.specs.Convert.{finished}
use Rattle.terms.specs.Kind.{KindModel}
use Rattle.terms.specs.Sets.{holds, Within}
use Rattle.terms.specs.Terms.{Monos, Table}
use Rattle.terms.specs.Values.{every, set_on, value_under, bit_at}
use Rattle.terms.specs.declared.Term.{Term}
use Rattle.terms.specs.declared.nets.NetSet.{NetSet}
use Rattle.terms.proofs.Values.{every_all, every_one}
use Rattle.cards.specs.Law.{Polynomial, BitTerms}
use Rattle.cards.specs.Nested.{on_below, value_below, Gained, Finishes, NestedAnswer}
use Rattle.cards.specs.Sums.{card_kind}
use Rattle.cards.specs.Working.{card_working}
use Rattle.cards.proofs.CardLaw.{card_of_lem}
use Rattle.cards.proofs.Held.{together, then_on, on_then}

-- where all nets are below `places`, those count
all_below : (v : ℕ → Bool) (places : ℕ) → places ≤ 256 → (s : NetSet) → Within places s → on_below places v s ≡ set_on v s
all_below v places few s w =
    let on = (λ (g : ℕ). not (holds s g) || v g) in
    let only = (λ (n : ℕ) (h : places ≤ n) (e : every n on ≡ true) (g : ℕ). then_on (holds s g) (v g) (λ (x : holds s g ≡ true). let b = w g x in on_then (holds s g) (v g) (every_one n on e g (omega arith)) x)) in
    together (on_below places v s) (set_on v s) (λ e. every_all 256 on (only places (omega arith) e)) (λ e. every_all places on (only 256 few e))

value_all : (v : ℕ → Bool) (places : ℕ) → places ≤ 256 → (ts : List (Term NetSet)) → Monos (Within places) ts → value_below places v ts ≡ value_under v ts
value_all v places few [] w = refl
value_all v places few (t ∷ ts) w = ap₂ (λ (b : Bool) (x : ℕ). bit_xor (cond b t.code 0) x) (all_below v places few t.mono w.0) (value_all v places few ts w.1)

module _ (m : FieldData) (l : FieldLaws m) (n : ℕ) (few : n ≤ 3) (d : ℕ → ℕ) (duals : (i : ℕ) → i < m.width → Dual m i (d i)) (cap count : ℕ) (bits : List (Term NetSet)) (terms : BitTerms m n bits) (ends : Finishes m n cap count bits) where
  -- a table of rows of n words with the bit form's values is what the working ends in
  ending : (rows : List (Term (List ℕ))) (t : ℕ) → Table (card_kind m n) rows t → Gained m (card_kind m n) (n * m.width) bits [] (take t rows) → card_working m n d cap count bits ≡ finished (take t rows)
  ending rows t T g =
      let p = take t rows in
      let x = ends d duals in
      let places : n * m.width ≤ 256 = (let a : n * m.width ≤ 3 * 8 = mul-le-mul few l.wide in omega arith) in
      let poly : Polynomial m n p = record { codes = g.own.codes; nonzero = T.nonzero; rows = g.own.rows; falling = T.falling } in
      let same : p ≡ x.0 = (card_of_lem m l n few d duals cap count bits terms x.0 x.1).only p poly
      (λ xs i. let v = bit_at m.width xs in g.values xs i ∙ xor_zero_r (value_below (n * m.width) v bits) ∙ value_all v (n * m.width) places bits terms.within) in
      x.1 ∙ ap finished (sym same)

  pub nested_end : (k : KindModel (List ℕ)) → k ≡ card_kind m n → (rows : List (Term (List ℕ))) (t : ℕ) → Table k rows t → Gained m k (n * m.width) bits [] (take t rows)
      → (card_working m n d cap count bits ≡ finished (take t rows)) × Table (card_kind m n) rows t
  nested_end k e rows t T g =
      let T' = subst (λ (k : KindModel (List ℕ)). Table k rows t) e T in
      (ending rows t T' (subst (λ (k : KindModel (List ℕ)). Gained m k (n * m.width) bits [] (take t rows)) e g), T')

-- what is answered where the rows were worked, whatever the duals
pub nested_answer : {E : Type 0} (m : FieldData) (l : FieldLaws m) (n : ℕ) → n ≤ 3 → (cap count : ℕ) (bits : List (Term NetSet)) → BitTerms m n bits → Finishes m n cap count bits
    → (k : KindModel (List ℕ)) → k ≡ card_kind m n → (p : ℕ) → p ≡ n * m.width → (rows : List (Term (List ℕ))) (r : Result ℕ E) → IfOk r (λ t. Table k rows t × Gained m k p bits [] (take t rows))
    → NestedAnswer m n cap count bits rows (result_ok r)
nested_answer m l n few cap count bits terms ends k ek p ep rows (Ok t) h =
    let g = subst (λ (i : ℕ). Gained m k i bits [] (take t rows)) ep h.1 in
    (λ d duals. (nested_end m l n few d duals cap count bits terms ends k ek rows t h.0 g).0, subst (λ (k : KindModel (List ℕ)). Table k rows t) ek h.0)
nested_answer m l n few cap count bits terms ends k ek p ep rows (Err e) h = tt
