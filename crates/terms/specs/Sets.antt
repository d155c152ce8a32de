-- A net set by its members, and what the kind of net sets means by them. Assumes nothing.
use Rattle.std.specs.Prelude.{◌≡◌, ℕ, ◌/◌, ◌%◌, ◌^◌, ◌<◌, Bool, true, false, not, ◌&&◌, ◌||◌, ◌↔◌, List, [], ◌∷◌, Some, None, Option, ◌==◌, slice_index}
use Rattle.terms.specs.Nets.{net_model}
use Rattle.terms.specs.declared.nets.NetSet.{NetSet}

-- whether s holds net g: net g is bit g % 64 of word g / 64
abbrev pub holds : NetSet → ℕ → Bool
holds s g = slice_index s.words (g / 64) / 2 ^ (g % 64) % 2 == 1

-- s is made of four words of 64 bits, as every value of the type is
abbrev pub Own : NetSet → Type 0
Own s = net_model.own s ≡ true

-- every net of s is below n
abbrev pub Within : ℕ → NetSet → Type 0
Within n s = (g : ℕ) → holds s g ≡ true → g < n

-- g is the greatest net of s
pub record Top (s : NetSet) (g : ℕ) : Type 0 where
  pub has : holds s g ≡ true
  pub above : (h : ℕ) → g < h → holds s h ≡ false

-- the greatest net of a set, which the empty set lacks
abbrev pub GreatestNet : NetSet → Option ℕ → Type 0
GreatestNet s (Some g) = Top s g
GreatestNet s None = (g : ℕ) → holds s g ≡ false

-- whether g is one of the nets xs
abbrev pub among : ℕ → List ℕ → Bool
among g [] = false
among g (x ∷ xs) = g == x || among g xs

-- s is the set of the nets xs
pub record SetOf (xs : List ℕ) (s : NetSet) : Type 0 where
  pub own : Own s
  pub members : (g : ℕ) → holds s g ≡ among g xs

-- t is s without g
pub record Without (s : NetSet) (g : ℕ) (t : NetSet) : Type 0 where
  pub own : Own t
  pub members : (h : ℕ) → holds t h ≡ (holds s h && not (h == g))

-- g is the greatest net in which s and t differ, and t holds it
pub record Greatest (s t : NetSet) (g : ℕ) : Type 0 where
  pub lacks : holds s g ≡ false
  pub has : holds t g ≡ true
  pub above : (h : ℕ) → g < h → holds s h ≡ holds t h

-- sets are their members, the product is the union, the unit is the empty set, and the greater of two sets holds the greatest net in which they differ
pub record NetLaws : Type 0 where
  pub only : (s t : NetSet) → Own s → Own t → ((g : ℕ) → holds s g ≡ holds t g) → s ≡ t
  pub few : (s : NetSet) → Own s → (g : ℕ) → holds s g ≡ true → g < 256
  pub none : (g : ℕ) → holds net_model.unit g ≡ false
  pub union : (s t : NetSet) → Own s → Own t → (g : ℕ) → holds (net_model.times s t) g ≡ (holds s g || holds t g)
  pub order : (s t : NetSet) → Own s → Own t → (net_model.less s t ≡ true) ↔ ((g : ℕ) × Greatest s t g)
