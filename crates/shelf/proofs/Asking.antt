-- What the calls that leave a shelf as it is do, from what their steps answer. Assumes nothing.
use Rattle.std.proofs.Common.{◌≡◌, ℕ, min, List, [], ◌∷◌, length, get_or, Ok, Err, Result, sym, refl, ap, ◌∙◌, subst, ap₂, arith}
use mathlib.Core.Path.{subst₃}
use Rattle.algebra.specs.Field.{FieldData, FieldLaws}
use Rattle.fault.specs.declared.Fault.{Fault}
use Rattle.terms.specs.Values.{value_under, bit_at}
use Rattle.terms.specs.declared.Term.{Term}
use Rattle.terms.specs.declared.nets.NetSet.{NetSet}
use Rattle.terms.specs.BothKinds.{as_three}
use Rattle.forms.specs.Differences.{LeastDifference}
use Rattle.forms.specs.Inputs.{Width, InputOf, InputIs, ValueIs}
use Rattle.cards.specs.Working.{CardAnswered}
use Rattle.ledger.specs.Drawers.{Held, Itself, Told, Drawn}
use Rattle.ledger.specs.Rules.{Shows, Refused, carding, card_full}
use Rattle.ledger.specs.declared.Compared.TheVariants.{Differ}

-- the words of a field's codes have a width
pub wide : (m : FieldData) → FieldLaws m → Width m.width
wide m l = (omega (arith, l.narrow), omega (arith, l.wide))

-- two forms that differ
pub told_apart : (k : ℕ) (us vs : List (Term NetSet)) (s : NetSet) (xs : List ℕ) (a b : ℕ) → Width k → LeastDifference us vs s → InputIs k s xs → ValueIs k xs us a → ValueIs k xs vs b
    → Told k us vs (Differ (get_or xs 0 0, get_or xs 1 0, get_or xs 2 0, a, b))
told_apart k us vs s xs a b w least i x y =
    let in_words_lem = i.right w in
    let three : xs ≡ get_or xs 0 0 ∷ (get_or xs 1 0 ∷ (get_or xs 2 0 ∷ [])) = as_three xs in_words_lem.long in
    record {
      set = s;
      least = least;
      words = subst (InputOf k s) three in_words_lem;
      left = x.right w ∙ ap (λ (zs : List ℕ). value_under (bit_at k zs) us) three;
      right = y.right w ∙ ap (λ (zs : List ℕ). value_under (bit_at k zs) vs) three;
    }

-- the card of what a drawer shows, over as many words and in tables as long as they are
pub drawn : (m : FieldData) (n : ℕ) (at at' : Held) (d p s c : ℕ) (us : List (Term NetSet)) → Shows at d us → (r : Result ℕ Fault) (table : List (Term (List ℕ))) → length table ≡ c
    → {n' p' s' c' : ℕ} → n' ≡ n → p' ≡ p → s' ≡ s → c' ≡ c → CardAnswered m n' (min p' s') c' us table r → Drawn m n at at' d p s c r table
drawn m n at at' d p s c us shown r table long same_n same_p same_s same_c a =
    by r (subst₃ (λ (x y z : ℕ). CardAnswered m x y z us table r) same_n (ap₂ min same_p same_s) same_c a)
  where
    by : (r : Result ℕ Fault) → CardAnswered m n (min p s) c us table r → Drawn m n at at' d p s c r table
    by (Ok j) a = (us, shown, a, long)
    by (Err e) a = let w = a.worked in (subst (Refused m n at Itself (carding d p s c)) (sym w.2) (card_full d p s c us shown us refl a.dual a.duals w.0 w.1), w.3)
