use Rattle.std.proofs.Common.{◌≡◌, ℕ, Option, Some, List, [], ◌∷◌, reverse, length, get_or, sym, ◌∙◌, ap₂, arith, rules}
use Rattle.std.proofs.lemmas.Bool.Decides.{nat_tests}
use Rattle.std.specs.Ordering.{nat_cmp, is_lt, is_some_and, partial_ordering_then}
use Rattle.std.specs.declared.cmp.Ordering.{Ordering}
use Rattle.terms.specs.Numbers.{lex}
use Rattle.terms.specs.BothKinds.{as_four}
use Rattle.terms.proofs.nets.NetsKindNetSet.less.Goals as goal

four : (a b c d p q r s : ℕ) → is_some_and is_lt (partial_ordering_then (partial_ordering_then (partial_ordering_then (Some (nat_cmp a p)) (Some (nat_cmp b q))) (Some (nat_cmp c r))) (Some (nat_cmp d s))) ≡ lex (a ∷ (b ∷ (c ∷ (d ∷ [])))) (p ∷ (q ∷ (r ∷ (s ∷ []))))
four a b c d p q r s = grind (arith, nat_tests)

-- how the places i of two lists stand
abbrev at : List ℕ → List ℕ → ℕ → Option Ordering
at xs ys i = Some (nat_cmp (get_or xs i 0) (get_or ys i 0))

words : (xs ys : List ℕ) → length xs ≡ 4 → length ys ≡ 4
    → is_some_and is_lt (partial_ordering_then (partial_ordering_then (partial_ordering_then (at xs ys 3) (at xs ys 2)) (at xs ys 1)) (at xs ys 0)) ≡ lex (reverse xs) (reverse ys)
words xs ys l m =
    four (get_or xs 3 0) (get_or xs 2 0) (get_or xs 1 0) (get_or xs 0 0) (get_or ys 3 0) (get_or ys 2 0) (get_or ys 1 0) (get_or ys 0 0)
    ∙ sym (ap₂ (λ vs ws. lex (reverse vs) (reverse ws)) (as_four xs l) (as_four ys m))

pub returns : goal.returns
returns c = c.lt.ensures ∙ words c.args.a.words c.args.b.words (search rules) (search rules)
