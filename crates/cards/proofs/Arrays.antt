-- Arrays that the calls of a closure fill, index by index. Assumes nothing.
use Rattle.std.proofs.Common.{◌≡◌, ℕ, zero, suc, ◌+◌, ◌<◌, List, get_or, refl, sym, subst, subst₂, arith}
use Rattle.std.specs.Array.{IsFromFnResult, IsFromFnResultFrom, IsMapOf, MapsFrom}
use Rattle.std.specs.Fn.{Called}
use denote.Param.Members.{Mut}

-- J holds of the closure before its call at an index, and each call gives an element that is P
module _ {F B : Type 0} (g : Mut F (ℕ × Unit {0}) B) (P : ℕ → B → Type 0) (J : ℕ → F → Type 0)
    (step : (i : ℕ) (p : F) (y : B) (q : F) → J i p → Called g p (i, tt) y q → P i y × J (i + 1) q) where
  made_from : (ys : List B) (d : B) (f : F) (i n : ℕ) → J i f → IsFromFnResultFrom g f ys i n → (k j : ℕ) → k < n → i + k ≡ j → P j (get_or ys j d)
  made_from ys d f i zero a u k j h e = absurd (omega arith)
  made_from ys d f i (suc n) a u zero j h e =
      let s = step i f u.1 u.0 a u.3 in
      subst (λ (x : ℕ). P x (get_or ys x d)) (let z : i ≡ j = omega arith in z) (subst (P i) (sym (u.2.1 d)) s.0)
  made_from ys d f i (suc n) a u (suc k) j h e = made_from ys d u.0 (i + 1) n (step i f u.1 u.0 a u.3).1 u.4 k j (omega arith) (omega arith)

  pub made_at : (ys : List B) (f : F) (n : ℕ) → J 0 f → IsFromFnResult g f ys n → (i : ℕ) → i < n → (d : B) → P i (get_or ys i d)
  made_at ys f n a u i h d = made_from ys d f 0 n a u.each i i h (omega arith)

-- the same for a closure that no call changes
pub made_same : {F B : Type 0} (g : Mut F (ℕ × Unit {0}) B) (P : ℕ → B → Type 0) (f : F) → ((i : ℕ) (y : B) (q : F) → Called g f (i, tt) y q → P i y) → ((i : ℕ) (y : B) (q : F) → Called g f (i, tt) y q → q ≡ f)
    → (ys : List B) (n : ℕ) → IsFromFnResult g f ys n → (i : ℕ) → i < n → (d : B) → P i (get_or ys i d)
made_same {F} {B} g P f gives stays =
    let at = λ (i : ℕ) (p : F) (y : B) (q : F) (e : p ≡ f) (c : Called g p (i, tt) y q). subst (λ (z : F). Called g z (i, tt) y q) e c in
    λ ys n u i h d. made_at g P (λ _ p. p ≡ f) (λ i p y q e c. (gives i y q (at i p y q e c), stays i y q (at i p y q e c))) ys f n refl u i h d

-- each element made of one of a list
module _ {F A B : Type 0} (g : Mut F (A × Unit {0}) B) (P : A → B → Type 0) (f : F)
    (gives : (x : A) (y : B) (q : F) → Called g f (x, tt) y q → P x y) (stays : (x : A) (y : B) (q : F) → Called g f (x, tt) y q → q ≡ f) where
  mapped_from : (xs : List A) (ys : List B) (c : A) (d : B) (p : F) (i n : ℕ) → p ≡ f → MapsFrom g p xs ys i n → (k j : ℕ) → k < n → i + k ≡ j → P (get_or xs j c) (get_or ys j d)
  mapped_from xs ys c d p i zero a u k j h e = absurd (omega arith)
  mapped_from xs ys c d p i (suc n) a u zero j h e =
      let s = gives u.1 u.2 u.0 (subst (λ (z : F). Called g z (u.1, tt) u.2 u.0) a u.5) in
      subst (λ (x : ℕ). P (get_or xs x c) (get_or ys x d)) (let z : i ≡ j = omega arith in z) (subst₂ (λ (x : A) (y : B). P x y) (sym (u.3.1 c)) (sym (u.4.1 d)) s)
  mapped_from xs ys c d p i (suc n) a u (suc k) j h e =
      mapped_from xs ys c d u.0 (i + 1) n (stays u.1 u.2 u.0 (subst (λ (z : F). Called g z (u.1, tt) u.2 u.0) a u.5)) u.6 k j (omega arith) (omega arith)

  pub mapped_at : (xs : List A) (ys : List B) (n : ℕ) → IsMapOf g f xs ys n → (i : ℕ) → i < n → (c : A) (d : B) → P (get_or xs i c) (get_or ys i d)
  mapped_at xs ys n u i h c d = mapped_from xs ys c d f 0 n refl u.each i i h (omega arith)
