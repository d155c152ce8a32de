-- What `any` over a range tells of its numbers. Assumes nothing.
use Rattle.std.proofs.Common.{◌≡◌, ℕ, ◌+◌, ◌-◌, ◌<◌, ◌≤◌, Bool, true, false, List, Option, MatchOption, length, get_or, refl, subst, arith}
use Rattle.std.specs.Bool.{MatchBool}
use Rattle.std.specs.Fn.{Called}
use Rattle.std.specs.Iterator.{YieldsThen}
use Rattle.std.specs.List.{range_with_len, FoldsTo, HoldsAt, AllWithin}
use Rattle.std.specs.declared.ops.Range.{Range}
use Rattle.std.proofs.iter.Yields.{nat_range_steps}
use Rattle.std.proofs.lemmas.Iterator.{YieldsList-from_range, cases_from_any}
use Rattle.std.proofs.lemmas.List.FromFn.{length-range_with_len, get_or-range_with_len}
use denote.Param.Members.{Mut}

-- r says whether a number from a up to b has P
pub record Told (r : Bool) (a b : ℕ) (P : ℕ → Type 0) : Type 0 where
  pub found : r ≡ true → (k : ℕ) × (a ≤ k) × (k < b) × P k
  pub none : r ≡ false → (k : ℕ) → a ≤ k → k < b → P k → ⊥

pub any_tells : {F : Type 0} {g : Mut F (ℕ × Unit {0}) Bool} (s u : Range ℕ) (f : F) (r : Bool) (P : ℕ → Type 0)
    → (xs : List ℕ) × (o : Option ℕ) × (j : F) × YieldsThen nat_range_steps s xs o u × FoldsTo (λ p x q. Called g p (x, tt) false q) f xs j
    × MatchOption o (r ≡ false) (λ x. (r ≡ true) × ((h : F) × Called g j (x, tt) true h))
    → ((x : ℕ) (q : F) → Called g f (x, tt) true q → P x) → ((x : ℕ) (q : F) → Called g f (x, tt) false q → (q ≡ f) × (P x → ⊥)) → Told r s.start s.end P
any_tells s u f r P ran at_true at_false = by r (cases_from_any u f r P (λ x. P x → ⊥) ran (YieldsList-from_range s.start s.end _ refl refl) at_true at_false)
  where
    all : List ℕ
    all = range_with_len s.start (s.end - s.start)

    long : length all ≡ s.end - s.start
    long = length-range_with_len s.start (s.end - s.start)

    by : (r : Bool) → MatchBool r ((k : ℕ) × (k < length all) × HoldsAt P all k) (AllWithin (λ x. P x → ⊥) all 0 (length all)) → Told r s.start s.end P
    by true h =
        let i : h.0 < s.end - s.start = omega (arith, long, h.1) in
        record { found = λ _. (s.start + h.0, omega arith, omega arith, subst P (get_or-range_with_len s.start (s.end - s.start) h.0 0 i) (h.2 0)); none = λ e. absurd (cc) }
    by false h =
        record {
          found = λ e. absurd (cc);
          none = λ _ k a b.
              let i : get_or all (k - s.start) 0 ≡ k = omega (arith, get_or-range_with_len s.start (s.end - s.start) (k - s.start) 0 (omega arith)) in
              subst (λ x. P x → ⊥) i (h (k - s.start) 0 (omega arith) (omega (arith, long)));
        }
