-- Rows of exponents as numbers. Assumes nothing.
use Rattle.std.proofs.Common.{◌≡◌, ℕ, zero, suc, ◌+◌, ◌-◌, ◌*◌, ◌^◌, ◌<◌, ◌≤◌, true, false, cond, ltb, leb, List, [], ◌∷◌, sym, refl, ap, ◌∙◌, subst, ⊎_elim, mul-le-mul_right, suc-mul, arith}
use native.Mathlib.Nat.{pow-zero, pow-succ'}
use Rattle.std.proofs.lemmas.Bool.{cases_Bool, cond-true, cond-false, ltb-true, ltb-false, leb-true, true≢false, and_parts}
use Rattle.terms.specs.Numbers.{lex, inside}
use Rattle.terms.specs.Exps.{tops_for, exp_model}
use Rattle.terms.specs.BothKinds.{exp_laws}
use Rattle.convert.proofs.Enough.{Counted}

abbrev count : List ℕ → ℕ
count [] = 1
count (l ∷ ls) = suc l * count ls

abbrev number : List ℕ → List ℕ → ℕ
number [] es = 0
number (l ∷ ls) [] = 0
number (l ∷ ls) (e ∷ es) = e * count ls + number ls es

step : (e f b x y : ℕ) → e < f → x < b → e * b + x < f * b + y
step e f b x y h l =
    let a : e * b + b ≤ f * b = subst (λ z. z ≤ f * b) (suc-mul e b) (mul-le-mul_right b h) in
    omega arith

number_below : (ls es : List ℕ) → inside ls es ≡ true → number ls es < count ls
number_below [] es h = omega arith
number_below (l ∷ ls) [] h = absurd (true≢false (sym h))
number_below (l ∷ ls) (e ∷ es) h =
    let p = and_parts (leb e l) (inside ls es) h in
    let e≤l : e ≤ l = leb-true e l p.0 in
    let s = step e (suc l) (count ls) (number ls es) 0 (omega arith) (number_below ls es p.1) in
    omega (arith, s)

number_rising : (ls es fs : List ℕ) → inside ls es ≡ true → inside ls fs ≡ true → lex es fs ≡ true → number ls es < number ls fs
number_rising [] [] [] h g l = absurd (true≢false (sym l))
number_rising [] [] (f ∷ fs) h g l = absurd (true≢false (sym g))
number_rising [] (e ∷ es) fs h g l = absurd (true≢false (sym h))
number_rising (l ∷ ls) [] fs h g x = absurd (true≢false (sym h))
number_rising (l ∷ ls) (e ∷ es) [] h g x = absurd (true≢false (sym g))
number_rising (l ∷ ls) (e ∷ es) (f ∷ fs) h g x =
    let p = and_parts (leb e l) (inside ls es) h in
    let q = and_parts (leb f l) (inside ls fs) g in
    ⊎_elim
    (λ a. step e f (count ls) (number ls es) (number ls fs) (ltb-true e f a) (number_below ls es p.1))
    (λ a. ⊎_elim
    (λ b. absurd (true≢false (sym x ∙ cond-false (ltb e f) true (cond (ltb f e) false (lex es fs)) a ∙ cond-true (ltb f e) false (lex es fs) b)))
    (λ b.
    let u : f ≤ e = ltb-false e f a in
    let v : e ≤ f = ltb-false f e b in
    let w : e ≡ f = omega arith in
    let r : number ls es < number ls fs = number_rising ls es fs p.1 q.1 (sym (cond-false (ltb e f) true (cond (ltb f e) false (lex es fs)) a ∙ cond-false (ltb f e) false (lex es fs) b) ∙ x) in
    subst (λ z. e * count ls + number ls es < z * count ls + number ls fs) w (omega (arith, r)))
    (cases_Bool (ltb f e)))
    (cases_Bool (ltb e f))

again : (q : ℕ) → 0 < q → suc (q - 1) ≡ q
again q h = omega arith

power1 : (q : ℕ) → q ^ 1 ≡ q * 1
power1 q = pow-succ' q 0 ∙ ap (λ (z : ℕ). q * z) (pow-zero q)

power2 : (q : ℕ) → q ^ 2 ≡ q * (q * 1)
power2 q = pow-succ' q 1 ∙ ap (λ (z : ℕ). q * z) (power1 q)

counts : (q n : ℕ) → 0 < q → n ≤ 3 → count (tops_for q n) ≡ q ^ n
counts q zero h l = sym (pow-zero q)
counts q (suc zero) h l = ap (λ (z : ℕ). z * 1) (again q h) ∙ sym (power1 q)
counts q (suc (suc zero)) h l = ap (λ (z : ℕ). z * (z * 1)) (again q h) ∙ sym (power2 q)
counts q (suc (suc (suc zero))) h l = ap (λ (z : ℕ). z * (z * (z * 1))) (again q h) ∙ sym (pow-succ' q 2 ∙ ap (λ (z : ℕ). q * z) (power2 q))
counts q (suc (suc (suc (suc n)))) h l = absurd (omega arith)

-- rows of n exponents up to q − 1 are q^n
pub rows_counted : (q n : ℕ) → 0 < q → n ≤ 3 → Counted (exp_model (tops_for q n)) (λ r. (exp_model (tops_for q n)).own r ≡ true) (q ^ n)
rows_counted q n h l =
    let ls = tops_for q n in
    record {
      number = number ls;
      below = λ a p. subst (λ z. number ls a < z) (counts q n h l) (number_below ls a p);
      rising = λ a b p r x. number_rising ls a b p r x;
      unit = (exp_laws (tops_for q n) refl).unit_own;
      times = (exp_laws (tops_for q n) refl).times_own;
    }
