-- One call of a list, from what the call promises. Assumes nothing.
use Rattle.std.proofs.Common.{◌≡◌, ℕ, ◌-◌, ◌≤◌, min, List, length, take, Option, sym, subst, subst₂, arith}
use Rattle.std.proofs.lemmas.List.{length-take}
use Rattle.algebra.specs.Field.{FieldData}
use Rattle.fault.specs.declared.Fault.{Fault}
use Rattle.ledger.specs.Answers.{Answer, fault_of}
use Rattle.terms.specs.declared.Term.{Term}
use Rattle.ledger.specs.Rules.{Call, card_filing, carding}
use Rattle.shelf.specs.Promises.{Promise}
use Rattle.shelf.specs.declared.store.Drawer.{Drawer}
use Rattle.audit.specs.Runs.{Steps}

pub steps : (m : FieldData) (n : ℕ) (c k : Call) (before after : List Drawer) (a : Answer c) (f : Option Fault) → c ≡ k → f ≡ fault_of c a → Promise m n c before after a → Steps m n k before after f
steps m n c k before after a f e q p =
    subst₂ (λ (d : Call) (o : Option Fault). Steps m n d before after o) e (sym q) (λ L h. (p.turn L h).1)

-- the part of a table that is lent
pub lent : {A : Type 0} (xs : List A) (w l : ℕ) → l ≡ min w (length xs) → l ≤ length xs → length (take (l - 0) xs) ≡ min w (length xs)
lent xs w l e h = let t = length-take (l - 0) xs in omega (arith, t)

pub same_filing : (d : ℕ) (ts : List (Term (List ℕ))) {p s r p' s' r' : ℕ} → p ≡ p' → s ≡ s' → r ≡ r' → card_filing d ts p s r ≡ card_filing d ts p' s' r'
same_filing d ts x y z = λ i. card_filing d ts (x i) (y i) (z i)

pub same_carding : (d : ℕ) {p s c p' s' c' : ℕ} → p ≡ p' → s ≡ s' → c ≡ c' → carding d p s c ≡ carding d p' s' c'
same_carding d x y z = λ i. carding d (x i) (y i) (z i)

-- a call by another name
pub renamed : (m : FieldData) (n : ℕ) (c k : Call) (before after : List Drawer) (f : Option Fault) → c ≡ k → Steps m n c before after f → Steps m n k before after f
renamed m n c k before after f e s = subst (λ (d : Call). Steps m n d before after f) e s
