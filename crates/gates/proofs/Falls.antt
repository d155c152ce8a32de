-- Each turn of the reduction: what comes in, what it leaves, and that the leading set falls. Assumes nothing.
use Rattle.std.proofs.Common.{◌≡◌, ℕ, suc, ◌+◌, ◌-◌, ◌<◌, ◌≤◌, true, false, not, ◌&&◌, ◌||◌, eqb, List, [], ◌∷◌, length, get_or, Some, None, Option, sym, refl, ap, ◌∙◌, subst, ⊎_elim, suc-le-suc, zero-le, arith}
use Rattle.std.proofs.lemmas.Bool.{cases_Bool}
use Rattle.terms.specs.Terms.{Monos, Under}
use Rattle.terms.specs.Lent.{live, capacity, Off}
use Rattle.terms.specs.Nets.{net_model}
use Rattle.terms.specs.declared.Term.{Term}
use Rattle.terms.specs.declared.table.TermTable.{TermTable}
use Rattle.terms.specs.declared.nets.NetSet.{NetSet}
use Rattle.terms.proofs.Laws.{added_under}
use Rattle.terms.specs.BothKinds.{net_laws}
use Rattle.netlist.specs.declared.gate.Gate.{Gate}
use Rattle.netlist.specs.declared.gate.Gate.TheVariants.{Zero}
use Rattle.netlist.specs.Circuits.{Circuit, WellFormed, inputs}
use Rattle.netlist.specs.Meaning.{tail}
use Rattle.terms.specs.Sets.{holds, among, Own, Within, Without, Top}
use Rattle.terms.specs.Additions.{Ended, done, full, adding}
use Rattle.gates.specs.Reductions.{TailTerms, Reduces, empty, bits, stops, step}
use Rattle.gates.specs.Forms.{TermsOf}
use Rattle.gates.specs.Turns.{Turn}
use Rattle.gates.specs.Tails.{Joins, each}
use Rattle.terms.proofs.Additions.{TermsAll, adding_keeps}
use Rattle.gates.proofs.Kept.{AllBelow}
use Rattle.terms.proofs.Members.{number, number_less, greatest_less}
use Rattle.netlist.proofs.Formed.{driven_reads}
use Rattle.gates.proofs.Ends.{tail_below, tail_comes, adding_terms, Comes}

-- falls with each turn
abbrev pub height : List (Term NetSet) → ℕ
height [] = 0
height (t ∷ ts) = suc (number t.mono)

-- a list of sets below s is lower than one that s leads
pub height_under : (s : NetSet) → Own s → (ts : List (Term NetSet)) → Monos Own ts → Under net_model s ts → height ts < suc (number s)
height_under s o [] w u = suc-le-suc zero-le
height_under s o (t ∷ ts) w u = suc-le-suc (number_less t.mono s w.0 o u.0)

-- a set of nets below s's greatest is less than s
pub below_less : (s u : NetSet) (g : ℕ) → Own s → Own u → Top s g → Within g u → net_model.less u s ≡ true
below_less s u g os ou top w =
    greatest_less u s g ou os (record {
      lacks = absent g (λ e. let h = w g e in omega arith);
      has = top.has;
      above = λ h l. absent h (λ e. let m = w h e in omega arith) ∙ sym (top.above h l);
    })
  where
    absent : (h : ℕ) → (holds u h ≡ true → ⊥) → holds u h ≡ false
    absent h f = ⊎_elim (λ e. absurd (f e)) (λ e. e) (cases_Bool (holds u h))

-- the sets that tail_of makes are the terms that the rule adds
pub joins_tail : (code : ℕ) (s x : NetSet) (g : ℕ) → ((h : ℕ) → holds x h ≡ (holds s h && not (eqb h g))) → (xss : List (List ℕ)) (us : List NetSet) → Joins x xss us → TailTerms code s g xss (each code us)
joins_tail code s x g m [] [] j = tt
joins_tail code s x g m [] (u ∷ us) j = absurd j
joins_tail code s x g m (xs ∷ xss) [] j = absurd j
joins_tail code s x g m (xs ∷ xss) (u ∷ us) j =
    (refl, record { own = j.0.own; members = λ h. j.0.members h ∙ ap (λ b. b || among h xs) (m h) }, joins_tail code s x g m xss us j.1)

-- where one turn leads a working that is at ts
abbrev pub Turned : Circuit → ℕ → List (Term NetSet) → Ended NetSet → Type 0
Turned c cap ts (done us) = TermsOf c us × (height us < height ts) × ((e : Ended NetSet) → Reduces c cap us e → Reduces c cap ts e)
Turned c cap ts (full us) = Reduces c cap ts (full us)

-- the leading term holds gate net g, and adds are the terms of the gate's tail
module _ (c : Circuit) (w : WellFormed c) (cap : ℕ) (lead : Term NetSet) (rest adds : List (Term NetSet)) (g : ℕ) (top : Top lead.mono g) (low : inputs c ≤ g)
    (tl : TailTerms lead.code lead.mono g (tail (get_or c.gates (g - inputs c) Zero)) adds) (r : TermsOf c (lead ∷ rest)) where
  gate_high : g < inputs c + length c.gates
  gate_high = r.driven.0 g top.has

  reads : AllBelow g (tail (get_or c.gates (g - inputs c) Zero))
  reads =
      let gate = get_or c.gates (g - inputs c) Zero in
      let h = gate_high in
      let j : g - inputs c < length c.gates = omega arith in
      let at : inputs c + (g - inputs c) ≡ g = omega arith in
      subst (λ n. AllBelow n (tail gate)) at (tail_below gate (inputs c + (g - inputs c)) (driven_reads c.gates (inputs c) (g - inputs c) w.driven j))

  come : TermsAll (Comes c.width g) adds
  come = tail_comes c.width lead.code lead.mono g r.codes.0 top (tail (get_or c.gates (g - inputs c) Zero)) adds reads tl

  turn_terms : (us : List (Term NetSet)) → adding net_model cap adds rest ≡ done us → TermsOf c us
  turn_terms us don =
      let h = gate_high in
      adding_terms c cap g (omega arith) adds rest us come
      (record { own = r.own.1; falling = r.falling.1; nonzero = r.nonzero.1; driven = r.driven.1; codes = r.codes.1 }) don

  turn_under : (us : List (Term NetSet)) → adding net_model cap adds rest ≡ done us → Under net_model lead.mono us
  turn_under us don =
      let o = r.own.0 in
      adding_keeps net_model cap (Comes c.width g) (Under net_model lead.mono)
      (λ t xs q v. added_under net_model net_laws t.code t.mono lead.mono (below_less lead.mono t.mono g o q.0 top q.1) xs v)
      adds rest us come r.falling.0 don

  pub turned : (e : Ended NetSet) → adding net_model cap adds rest ≡ e → Turned c cap (lead ∷ rest) e
  turned (done us) don =
      let n = turn_terms us don in
      (n, height_under lead.mono r.own.0 us n.own (turn_under us don), λ e m. step lead rest adds us g e top low tl don m)
  turned (full us) f = stops lead rest adds us g top low tl f

-- ---- on a table
-- what taking the leading term off tells, where it is known
led : (r : Option (Term NetSet)) (t t' : TermTable NetSet) (lead : Term NetSet) (rest : List (Term NetSet))
    → elim r as (λ _. Type 0) [ Some x ↦ Off net_model x t t' | None ↦ (live t ≡ []) × (t'.rows.now ≡ t.rows.now) × (t'.len ≡ t.len) ]
    → live t ≡ lead ∷ rest → (live t ≡ lead ∷ live t') × (capacity t' ≡ capacity t)
led (Some x) t t' lead rest o e =
    let f = sym e ∙ o.terms in
    let g : rest ≡ live t' = cc in
    (e ∙ ap (λ xs. lead ∷ xs) g, o.room)
led None t t' lead rest o e = absurd (let f = sym e ∙ o.0 in let z : ◌≡◌ {A = ℕ} 0 1 = cc in omega arith)

-- the leading term of t is taken off, which leaves t', and the sets us of the tail are added
pub table_turned : (c : Circuit) → WellFormed c → (cap : ℕ) (t t' : TermTable NetSet) (lead : Term NetSet) (g : ℕ) (gate : Gate) → Turn c (live t) lead g gate → TermsOf c (live t) → capacity t ≡ cap
    → (r : Option (Term NetSet)) → elim r as (λ _. Type 0) [ Some x ↦ Off net_model x t t' | None ↦ (live t ≡ []) × (t'.rows.now ≡ t.rows.now) × (t'.len ≡ t.len) ]
    → (x : NetSet) → Without lead.mono g x → (us : List NetSet) → Joins x (tail gate) us → (e : Ended NetSet) → adding net_model (capacity t') (each lead.code us) (live t') ≡ e
    → (capacity t' ≡ cap) × Turned c cap (live t) e
table_turned c w cap t t' lead g gate n terms room r o x m us j e a =
    let off = led r t t' lead n.leads.0 o n.leads.1 in
    let same : capacity t' ≡ cap = off.1 ∙ room in
    let tl = joins_tail lead.code lead.mono x g m.members (tail (get_or c.gates (g - inputs c) Zero)) us (subst (λ y. Joins x (tail y) us) n.driver.2 j) in (
      same,
      subst (λ ts. Turned c cap ts e) (sym off.0)
          (turned c w cap lead (live t') (each lead.code us) g n.top n.driver.0 tl (subst (TermsOf c) off.0 terms) e (subst (λ k. adding net_model k (each lead.code us) (live t') ≡ e) same a)),
    )

-- the ends
pub ends_bits : (c : Circuit) (cap : ℕ) (ts rest : List (Term NetSet)) (lead : Term NetSet) → ts ≡ lead ∷ rest → Within (inputs c) lead.mono → Reduces c cap ts (done ts)
ends_bits c cap ts rest lead e w = subst (λ xs. Reduces c cap xs (done xs)) (sym e) (bits lead rest w)

pub ends_empty : (c : Circuit) (cap : ℕ) (ts : List (Term NetSet)) → ts ≡ [] → Reduces c cap ts (done ts)
ends_empty c cap ts e = subst (λ xs. Reduces c cap xs (done xs)) (sym e) empty
