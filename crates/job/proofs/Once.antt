-- Each job is opened in one way, or refused in one way. Assumes nothing.
use Rattle.std.proofs.Common.{◌≡◌, ℕ, suc, ◌<◌, ◌≤◌, ◌⊎◌, List, [], ◌∷◌, ◌++◌, length, get_or, Some, None, codes, Option, sym, refl, ap, ◌∙◌, subst, subst₂, inl, inr, arith, pow_mono}
use Rattle.std.proofs.lemmas.List.{append_cancel_left}
use Rattle.algebra.proofs.Reduce.{degree_low}
use Rattle.fault.specs.declared.Fault.{Fault}
use Rattle.field.specs.Refusals.{ShiftRefused, below, above, reducible}
use Rattle.lines.specs.Text.{Line, Tail}
use Rattle.lines.specs.declared.Head.TheVariants.{Words}
use Rattle.lines.proofs.Same.{same_line, same_tail, made_line}
use Rattle.netlist.specs.Circuits.{Circuit}
use Rattle.netlist.specs.Refusals.{Accepted, Refused, bad_first, bad_entry, bytes_after, no_words, words_form, sizes_range, sizes_others}
use Rattle.netlist.proofs.Unique.{one_fault, one_circuit, not_both}
use Rattle.netlist.proofs.Unique as netlist
use Rattle.job.specs.Jobs.{Parts, BadJob, long, form, default_polynomial, NoDefault, FieldPolynomial, named, default, NoPolynomial, unnamed, WordsGiven, Makes, Opened, NotOpened, bad, no_field, field, reader}
use Rattle.job.proofs.Opening.{words_line}

-- ---- the polynomial and the field
abbrev Chosen : List ℕ → Option ℕ → ℕ → Type 0
Chosen t (Some q) p = q ≡ p
Chosen t None p = (n : ℕ) × (k : ℕ) × (rest : List ℕ) × Line 0 t Words (n ∷ k ∷ []) rest × (2 ≤ k) × (k ≤ 8) × (default_polynomial k ≡ p)

chosen : {t : List ℕ} {a : Option ℕ} {p : ℕ} → FieldPolynomial t a p → Chosen t a p
chosen (named p) = refl
chosen (default n k rest l x y) = (n, k, rest, l, x, y, refl)

one_chosen : (t : List ℕ) (a : Option ℕ) (p r : ℕ) → Chosen t a p → Chosen t a r → p ≡ r
one_chosen t (Some q) p r x y = sym x ∙ y
one_chosen t None p r x y = sym x.6 ∙ ap (λ (xs : List ℕ). default_polynomial (get_or xs 1 0)) (same_line x.3 y.3).same_list ∙ y.6

one_polynomial : {t : List ℕ} {a : Option ℕ} {p r : ℕ} → FieldPolynomial t a p → FieldPolynomial t a r → p ≡ r
one_polynomial {t} {a} {p} {r} x y = one_chosen t a p r (chosen x) (chosen y)

Unchosen : List ℕ → Option ℕ → Type 0
Unchosen t (Some q) = ⊥
Unchosen t None = (n k : ℕ) (rest : List ℕ) → Line 0 t Words (n ∷ k ∷ []) rest → NoDefault k

unchosen : {t : List ℕ} {a : Option ℕ} → NoPolynomial t a → Unchosen t a
unfolding Unchosen
unchosen (unnamed h) = h

no_chosen : (t : List ℕ) (a : Option ℕ) (p : ℕ) → Unchosen t a → Chosen t a p → ⊥
unfolding Unchosen
no_chosen t (Some q) p h x = h
no_chosen t None p h x = h x.0 x.1 x.2 x.3 x.4 x.5

no_polynomial : {t : List ℕ} {a : Option ℕ} {p : ℕ} → NoPolynomial t a → FieldPolynomial t a p → ⊥
no_polynomial {t} {a} {p} h x = no_chosen t a p (unchosen h) (chosen x)

one_refusal : {p : ℕ} {f g : Fault} → ShiftRefused p f → ShiftRefused p g → f ≡ g
one_refusal (below a) (below b) = refl
one_refusal (below a) (above b) = refl
one_refusal (below a) (reducible l h r) = absurd (omega arith)
one_refusal (above a) (below b) = refl
one_refusal (above a) (above b) = refl
one_refusal (above a) (reducible l h r) = absurd (omega arith)
one_refusal (reducible l h r) (below b) = absurd (omega arith)
one_refusal (reducible l h r) (above b) = absurd (omega arith)
one_refusal (reducible l h r) (reducible l' h' r') = refl

no_refusal : {p k : ℕ} {f : Fault} → Makes p k → ShiftRefused p f → ⊥
no_refusal {p} {k} m (below h) = let u = pow_mono {i = 2} {j = k} m.narrow in omega (arith, m.degree.low)
no_refusal {p} {k} m (above h) = let w : suc k ≤ 9 = omega (arith, m.wide) in let u = pow_mono {i = suc k} {j = 9} w in omega (arith, m.degree.high)
no_refusal m (reducible l h r) = m.irreducible r.0 r.1 r.2 r.3 r.4

one_width : {p j k : ℕ} → Makes p j → Makes p k → j ≡ k
one_width {p} {j} {k} x y = let u = degree_low j k p y.degree x.degree.low in let v = degree_low k j p x.degree y.degree.low in omega arith

-- ---- the netlist, read for the number of words that it gives
abbrev Given : List ℕ → Type 0
Given t = (a : ℕ) × (b : ℕ) × (rest : List ℕ) × Line 0 t Words (a ∷ b ∷ []) rest

one_number : {t : List ℕ} {n m : ℕ} → Given t → WordsGiven t n → WordsGiven t m → n ≡ m
one_number g x y = x g.0 g.1 g.2 g.3 ∙ sym (y g.0 g.1 g.2 g.3)

given_or_any : {n k : ℕ} {t : List ℕ} {f : Fault} → Refused n k t f → Given t ⊎ ((m : ℕ) → Refused m k t f)
given_or_any (bad_first (no_words e)) = inr (λ m. bad_first (no_words e))
given_or_any (bad_first (words_form s h)) = inr (λ m. bad_first (words_form s h))
given_or_any {n} {k} (bad_first (sizes_range a b rest l h)) = inl (a, b, rest, words_line k 0 l)
given_or_any {n} {k} (bad_first (sizes_others a b rest l r h)) = inl (a, b, rest, words_line k 0 l)
given_or_any {n} {k} (bad_entry gs rest begun h) = inl (n, k, _, words_line k 0 (netlist.words_line begun))
given_or_any {n} {k} (bytes_after gs outs rest begun e d h) = inl (n, k, _, words_line k 0 (netlist.words_line begun))

given : {n k : ℕ} {t : List ℕ} {c : Circuit} → Accepted n k t c → Given t
given {n} {k} {t} {c} a =
    let r = a.formed.range in
    let x : c.words < 1000 = omega (arith, r.few_words) in
    let y : c.width < 1000 = omega (arith, r.few_bits) in
    (c.words, c.width, _, made_line Words (c.words ∷ c.width ∷ []) _ (omega arith) refl (x, (y, tt)) a.bytes)

same_fault : {n m k : ℕ} {t : List ℕ} {f g : Fault} → WordsGiven t n → WordsGiven t m → Refused n k t f → Refused m k t g → f ≡ g
same_fault {n} {m} {k} {t} {f} {g} u v x y = by (given_or_any x)
  where
    by : Given t ⊎ ((m : ℕ) → Refused m k t f) → f ≡ g
    by (inl l) = one_fault m k t (subst (λ (i : ℕ). Refused i k t f) (one_number l u v) x) y
    by (inr any) = one_fault m k t (any m) y

not_refused : {n m k : ℕ} {t : List ℕ} {c : Circuit} {f : Fault} → WordsGiven t n → WordsGiven t m → Accepted n k t c → Refused m k t f → ⊥
not_refused {n} {m} {k} {t} {c} {f} u v a x = not_both m k t c (subst (λ (i : ℕ). Accepted i k t c) (one_number (given a) u v) a) x

-- ---- the job
module _ (job : List ℕ) where
  same_rest : {r s : List ℕ} → job ≡ codes "field" ++ r → job ≡ codes "field" ++ s → r ≡ s
  same_rest {r} {s} x y = append_cancel_left (codes "field") r s (sym x ∙ y)

  one_name : (a b : Option ℕ) (t u : List ℕ) → Parts job a t → Parts job b u → (a ≡ b) × (t ≡ u)
  one_name None None t u x y = (refl, x.0 ∙ sym y.0)
  one_name None (Some r) t u x y = absurd (x.1 y.0 y.1)
  one_name (Some p) None t u x y = absurd (y.1 x.0 x.1)
  one_name (Some p) (Some r) t u x y =
      let s = same_tail (subst (λ (z : List ℕ). Tail z 1 (p ∷ []) t) (same_rest x.1 y.1) x.2) y.2 in
      (ap (λ (vs : List ℕ). Some (get_or vs 0 0)) s.0, s.1)

  not_bad : {f : Fault} → BadJob job f → (a : Option ℕ) (t : List ℕ) → length job ≤ 16384 → Parts job a t → ⊥
  not_bad (long h) a t l x = omega arith
  not_bad (form rest l e none_fits) None t _ x = x.1 rest e
  not_bad (form rest l e none_fits) (Some p) t _ x = none_fits (p ∷ []) t (subst (λ (z : List ℕ). Tail z 1 (p ∷ []) t) (same_rest x.1 e) x.2)

  one_bad : {f g : Fault} → BadJob job f → BadJob job g → f ≡ g
  one_bad (long h) (long i) = refl
  one_bad (long h) (form rest l e none_fits) = absurd (omega arith)
  one_bad (form rest l e none_fits) (long h) = absurd (omega arith)
  one_bad (form rest l e none_fits) (form rest' l' e' none_fits') = refl

  -- why a job of right form is refused
  data Later (a : Option ℕ) (t : List ℕ) (f : Fault) : Type 0 where
    none : NoPolynomial t a → ((n k : ℕ) → Refused n k t f) → Later a t f
    no_shift : (p : ℕ) → FieldPolynomial t a p → ShiftRefused p f → Later a t f
    unread : (p k n : ℕ) → FieldPolynomial t a p → Makes p k → WordsGiven t n → Refused n k t f → Later a t f

  one_later : {a : Option ℕ} {t : List ℕ} {f g : Fault} → Later a t f → Later a t g → f ≡ g
  one_later {a} {t} (none h x) (none i y) = one_fault 0 0 t (x 0 0) (y 0 0)
  one_later (none h x) (no_shift p q y) = absurd (no_polynomial h q)
  one_later (none h x) (unread p k n q m w y) = absurd (no_polynomial h q)
  one_later (no_shift p q x) (none h y) = absurd (no_polynomial h q)
  one_later {a} {t} {f} (no_shift p q x) (no_shift p' q' y) = one_refusal (subst (λ (r : ℕ). ShiftRefused r f) (one_polynomial q q') x) y
  one_later {a} {t} {f} (no_shift p q x) (unread p' k n q' m w y) = absurd (no_refusal m (subst (λ (r : ℕ). ShiftRefused r f) (one_polynomial q q') x))
  one_later (unread p k n q m w x) (none h y) = absurd (no_polynomial h q)
  one_later {a} {t} {f} {g} (unread p k n q m w x) (no_shift p' q' y) = absurd (no_refusal m (subst (λ (r : ℕ). ShiftRefused r g) (one_polynomial q' q) y))
  one_later {a} {t} {f} (unread p k n q m w x) (unread p' k' n' q' m' w' y) =
      let e = one_width (subst (λ (r : ℕ). Makes r k) (one_polynomial q q') m) m' in
      same_fault w w' (subst (λ (i : ℕ). Refused n i t f) e x) y

  abbrev Late : Fault → Type 0
  Late f = (a : Option ℕ) × (t : List ℕ) × (length job ≤ 16384) × Parts job a t × Later a t f

  late : {f : Fault} → NotOpened job f → BadJob job f ⊎ Late f
  late (bad b) = inl b
  late (no_field a t l x h r) = inr (a, t, l, x, none h r)
  late (field a t p l x q r) = inr (a, t, l, x, no_shift p q r)
  late (reader a t p k n l x q m w r) = inr (a, t, l, x, unread p k n q m w r)

  -- a job is refused in one way
  pub one_unopened : {f g : Fault} → NotOpened job f → NotOpened job g → f ≡ g
  one_unopened {f} {g} x y = by (late x) (late y)
    where
      by : BadJob job f ⊎ Late f → BadJob job g ⊎ Late g → f ≡ g
      by (inl b) (inl d) = one_bad b d
      by (inl b) (inr s) = absurd (not_bad b s.0 s.1 s.2 s.3)
      by (inr r) (inl d) = absurd (not_bad d r.0 r.1 r.2 r.3)
      by (inr r) (inr s) =
          let e = one_name r.0 s.0 r.1 s.1 r.3 s.3 in
          one_later (subst₂ (λ (a : Option ℕ) (t : List ℕ). Later a t f) e.0 e.1 r.4) s.4

  -- and opened in one way
  pub record OneOpened (p k n : ℕ) (c : Circuit) (p' k' n' : ℕ) (c' : Circuit) : Type 0 where
    pub polynomial : p ≡ p'
    pub width : k ≡ k'
    pub number : n ≡ n'
    pub same : c ≡ c'

  pub one_opened : {p k n : ℕ} {c : Circuit} {p' k' n' : ℕ} {c' : Circuit} → Opened job p k n c → Opened job p' k' n' c' → OneOpened p k n c p' k' n' c'
  one_opened {p} {k} {n} {c} {p'} {k'} {n'} {c'} x y =
      let e = one_name x.name y.name x.netlist y.netlist x.parts y.parts in
      let t = y.netlist in
      let q = one_polynomial (subst₂ (λ (a : Option ℕ) (t : List ℕ). FieldPolynomial t a p) e.0 e.1 x.polynomial) y.polynomial in
      let w = one_width (subst (λ (r : ℕ). Makes r k) q x.field) y.field in
      let a = subst₂ (λ (i : ℕ) (t : List ℕ). Accepted n i t c) w e.1 x.accepted in
      let m = one_number (given a) (subst (λ (t : List ℕ). WordsGiven t n) e.1 x.words) y.words in
      record { polynomial = q; width = w; number = m; same = one_circuit n' k' t c c' (subst (λ (i : ℕ). Accepted i k' t c) m a) y.accepted }

  -- not both
  pub not_unopened : {p k n : ℕ} {c : Circuit} {f : Fault} → Opened job p k n c → NotOpened job f → ⊥
  not_unopened {p} {k} {n} {c} {f} x y = by (late y)
    where
      at : (a : Option ℕ) (t : List ℕ) → FieldPolynomial t a p → WordsGiven t n → Accepted n k t c → Later a t f → ⊥
      at a t q w o (none h r) = no_polynomial h q
      at a t q w o (no_shift p' q' r) = no_refusal x.field (subst (λ (i : ℕ). ShiftRefused i f) (one_polynomial q' q) r)
      at a t q w o (unread p' k' n' q' m' w' r) =
          let e = one_width (subst (λ (i : ℕ). Makes i k') (one_polynomial q' q) m') x.field in
          not_refused w w' o (subst (λ (i : ℕ). Refused n' i t f) e r)

      by : BadJob job f ⊎ Late f → ⊥
      by (inl b) = not_bad b x.name x.netlist x.short x.parts
      by (inr s) =
          let e = one_name s.0 x.name s.1 x.netlist s.3 x.parts in
          at x.name x.netlist x.polynomial x.words x.accepted (subst₂ (λ (a : Option ℕ) (t : List ℕ). Later a t f) e.0 e.1 s.4)
