-- One end for each circuit and number of rows; and more rows change nothing. Assumes nothing.
use Rattle.std.proofs.Common.{◌≡◌, ℕ, suc, ◌-◌, ◌<◌, ◌≤◌, true, List, [], ◌∷◌, get_or, sym, refl, ap, ◌∙◌, subst, ap₂, ⊎_elim, arith}
use Rattle.terms.proofs.Members.{never}
use Rattle.std.proofs.lemmas.Bool.{cases_order}
use Rattle.terms.specs.Terms.{term}
use Rattle.terms.specs.Nets.{net_model}
use Rattle.terms.specs.declared.Term.{Term}
use Rattle.terms.specs.declared.nets.NetSet.{NetSet}
use Rattle.netlist.specs.declared.gate.Gate.TheVariants.{Zero}
use Rattle.netlist.specs.Circuits.{Circuit, inputs}
use Rattle.netlist.specs.Meaning.{tail}
use Rattle.terms.specs.Sets.{holds, Top, NetLaws}
use Rattle.terms.specs.Additions.{Ended, done, full, adding}
use Rattle.gates.specs.Reductions.{OutTerms, TailTerms, Reduces, empty, bits, stops, step, Worked, goes}
use Rattle.gates.specs.Forms.{OneEnd, MoreRows}
use Rattle.terms.proofs.Additions.{done_same, full_done, adding_more}

pub top_same : (s : NetSet) (g h : ℕ) → Top s g → Top s h → g ≡ h
top_same s g h p q =
    ⊎_elim (λ e. e) (⊎_elim (λ l. never (sym q.has ∙ p.above h l)) (λ l. never (sym p.has ∙ q.above g l))) (cases_order g h)

not_both : {A : Type 0} (s : NetSet) (g n : ℕ) → Top s g → n ≤ g → ((h : ℕ) → holds s h ≡ true → h < n) → A
not_both s g n p l w = absurd (let m = w g p.has in omega arith)

module _ (N : NetLaws) where
  pub tails_same : (c : ℕ) (s : NetSet) (g : ℕ) (us : List (List ℕ)) (xs ys : List (Term NetSet)) → TailTerms c s g us xs → TailTerms c s g us ys → xs ≡ ys
  tails_same c s g [] [] [] p q = refl
  tails_same c s g [] [] (y ∷ ys) p q = absurd q
  tails_same c s g [] (x ∷ xs) ys p q = absurd p
  tails_same c s g (u ∷ us) [] ys p q = absurd p
  tails_same c s g (u ∷ us) (x ∷ xs) [] p q = absurd q
  tails_same c s g (u ∷ us) (x ∷ xs) (y ∷ ys) p q =
      let m : x.mono ≡ y.mono = N.only x.mono y.mono p.1.own q.1.own (λ h. p.1.members h ∙ sym (q.1.members h)) in
      ap₂ (λ d n. term d n ∷ xs) (p.0 ∙ sym q.0) m ∙ ap (λ r. y ∷ r) (tails_same c s g us xs ys p.2 q.2)

  pub outs_same : (i : ℕ) (os : List ℕ) (xs ys : List (Term NetSet)) → OutTerms i os xs → OutTerms i os ys → xs ≡ ys
  outs_same i [] [] [] p q = refl
  outs_same i [] [] (y ∷ ys) p q = absurd q
  outs_same i [] (x ∷ xs) ys p q = absurd p
  outs_same i (o ∷ os) [] ys p q = absurd p
  outs_same i (o ∷ os) (x ∷ xs) [] p q = absurd q
  outs_same i (o ∷ os) (x ∷ xs) (y ∷ ys) p q =
      let m : x.mono ≡ y.mono = N.only x.mono y.mono p.1.own q.1.own (λ h. p.1.members h ∙ sym (q.1.members h)) in
      ap₂ (λ d n. term d n ∷ xs) (p.0 ∙ sym q.0) m ∙ ap (λ r. y ∷ r) (outs_same (suc i) os xs ys p.2 q.2)

  -- the terms that two accounts of one step add are the same
  adds_same : (c : Circuit) (t : Term NetSet) (g h : ℕ) (xs ys : List (Term NetSet)) → Top t.mono g → Top t.mono h
      → TailTerms t.code t.mono g (tail (get_or c.gates (g - inputs c) Zero)) xs → TailTerms t.code t.mono h (tail (get_or c.gates (h - inputs c) Zero)) ys → xs ≡ ys
  adds_same c t g h xs ys p q a b =
      let e : h ≡ g = top_same t.mono h g q p in
      tails_same t.code t.mono g (tail (get_or c.gates (g - inputs c) Zero)) xs ys a (subst (λ n. TailTerms t.code t.mono n (tail (get_or c.gates (n - inputs c) Zero)) ys) e b)

  pub ends_same : (c : Circuit) (cap : ℕ) (ts : List (Term NetSet)) (d e : Ended NetSet) → Reduces c cap ts d → Reduces c cap ts e → d ≡ e
  ends_same c cap ts d e empty empty = refl
  ends_same c cap ts d e (bits t rest h) (bits t' rest' h') = refl
  ends_same c cap ts d e (bits t rest h) (stops t' rest' adds us g top low tl f) = not_both t.mono g (inputs c) top low h
  ends_same c cap ts d e (bits t rest h) (step t' rest' adds us g d' top low tl f next) = not_both t.mono g (inputs c) top low h
  ends_same c cap ts d e (stops t rest adds us g top low tl f) (bits t' rest' h) = not_both t.mono g (inputs c) top low h
  ends_same c cap ts d e (stops t rest adds us g top low tl f) (stops t' rest' adds' us' g' top' low' tl' f') =
      sym f ∙ ap (λ xs. adding net_model cap xs rest) (adds_same c t g g' adds adds' top top' tl tl') ∙ f'
  ends_same c cap ts d e (stops t rest adds us g top low tl f) (step t' rest' adds' us' g' d' top' low' tl' f' next') =
      full_done us us' (sym f ∙ ap (λ xs. adding net_model cap xs rest) (adds_same c t g g' adds adds' top top' tl tl') ∙ f')
  ends_same c cap ts d e (step t rest adds us g d'' top low tl f next) (bits t' rest' h) = not_both t.mono g (inputs c) top low h
  ends_same c cap ts d e (step t rest adds us g d'' top low tl f next) (stops t' rest' adds' us' g' top' low' tl' f') =
      full_done us' us (sym f' ∙ ap (λ xs. adding net_model cap xs rest) (adds_same c t g' g adds' adds top' top tl' tl) ∙ f)
  ends_same c cap ts d e (step t rest adds us g d'' top low tl f next) (step t' rest' adds' us' g' d' top' low' tl' f' next') =
      let q : us' ≡ us = done_same us' us (sym f' ∙ ap (λ xs. adding net_model cap xs rest) (adds_same c t g' g adds' adds top' top tl' tl) ∙ f) in
      ends_same c cap us d e next (subst (λ xs. Reduces c cap xs e) q next')

  pub one_end : OneEnd
  one_end c cap d e (stops outs us o f) (stops outs' us' o' f') = sym f ∙ ap (λ xs. adding net_model cap xs []) (outs_same 0 c.outs outs outs' o o') ∙ f'
  one_end c cap d e (stops outs us o f) (goes outs' us' e' o' f' r') = full_done us us' (sym f ∙ ap (λ xs. adding net_model cap xs []) (outs_same 0 c.outs outs outs' o o') ∙ f')
  one_end c cap d e (goes outs us d' o f r) (stops outs' us' o' f') = full_done us' us (sym f' ∙ ap (λ xs. adding net_model cap xs []) (outs_same 0 c.outs outs' outs o' o) ∙ f)
  one_end c cap d e (goes outs us d' o f r) (goes outs' us' e' o' f' r') =
      let q : us' ≡ us = done_same us' us (sym f' ∙ ap (λ xs. adding net_model cap xs []) (outs_same 0 c.outs outs' outs o' o) ∙ f) in
      ends_same c cap us d e r (subst (λ xs. Reduces c cap xs e) q r')

-- ---- more rows
-- what an end on fewer rows says of more rows
abbrev OnMore : Circuit → ℕ → List (Term NetSet) → Ended NetSet → Type 0
OnMore c more ts (done us) = Reduces c more ts (done us)
OnMore c more ts (full us) = Unit {0}

further : (c : Circuit) (more : ℕ) (t : Term NetSet) (rest adds us : List (Term NetSet)) (g : ℕ) → Top t.mono g → inputs c ≤ g → TailTerms t.code t.mono g (tail (get_or c.gates (g - inputs c) Zero)) adds
    → adding net_model more adds rest ≡ done us → (e : Ended NetSet) → OnMore c more us e → OnMore c more (t ∷ rest) e
further c more t rest adds us g top low tl f (done xs) r = step t rest adds us g (done xs) top low tl f r
further c more t rest adds us g top low tl f (full xs) r = tt

pub reduces_more : (c : Circuit) (cap more : ℕ) → cap ≤ more → (ts : List (Term NetSet)) (e : Ended NetSet) → Reduces c cap ts e → OnMore c more ts e
reduces_more c cap more l ts e empty = empty
reduces_more c cap more l ts e (bits t rest h) = bits t rest h
reduces_more c cap more l ts e (stops t rest adds us g top low tl f) = tt
reduces_more c cap more l ts e (step t rest adds us g d top low tl f next) =
    further c more t rest adds us g top low tl (adding_more net_model cap more l adds rest us f) d (reduces_more c cap more l us d next)

abbrev WorkedMore : Circuit → ℕ → Ended NetSet → Type 0
WorkedMore c more (done us) = Worked c more (done us)
WorkedMore c more (full us) = Unit {0}

worked_more : (c : Circuit) (cap more : ℕ) → cap ≤ more → (e : Ended NetSet) → Worked c cap e → WorkedMore c more e
worked_more c cap more l e (stops outs us o f) = tt
worked_more c cap more l e (goes outs us d o f r) = end d (reduces_more c cap more l us d r)
  where
    end : (d : Ended NetSet) → OnMore c more us d → WorkedMore c more d
    end (done xs) r = goes outs us (done xs) o (adding_more net_model cap more l outs [] us f) r
    end (full xs) r = tt

pub more_rows : MoreRows
more_rows c cap more us l w = worked_more c cap more l (done us) w
