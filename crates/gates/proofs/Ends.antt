-- What the working ends in. Assumes nothing.
use Rattle.std.proofs.Common.{◌≡◌, ℕ, suc, ◌+◌, ◌-◌, ◌*◌, ◌^◌, ◌<◌, ◌≤◌, Bool, true, false, cond, not, ◌&&◌, ◌||◌, eqb, List, [], ◌∷◌, map, length, get_or, sym, refl, ap, ◌∙◌, subst, ap₂, ⊎_elim, zero-mul, mul-one, arith, pow_pos}
use lib.Bits.{bit_xor, xor_zero_r, xor_comm, xor_shifted, xor_lt}
use lib.Pow.{pow-lt}
use Rattle.std.proofs.Math.Bool.{and-true}
use Rattle.terms.proofs.Members.{never}
use Rattle.std.proofs.lemmas.Bool.{cases_order, eqb-true, eq-eqb, or_cases, and_parts}
use Rattle.terms.specs.Terms.{Monos, Under}
use Rattle.terms.specs.Nets.{net_model}
use Rattle.terms.specs.declared.Term.{Term}
use Rattle.terms.specs.declared.nets.NetSet.{NetSet}
use Rattle.terms.proofs.Laws.{added_codes, added_monos, added_falling, added_nonzero}
use Rattle.terms.specs.BothKinds.{net_laws}
use Rattle.netlist.specs.declared.gate.Gate.{Gate}
use Rattle.netlist.specs.declared.gate.Gate.TheVariants.{And, Or, Xor, Nand, Nor, Xnor, Not, Buf, Zero, One}
use Rattle.netlist.specs.Circuits.{Circuit, WellFormed, Below, nets_of, inputs}
use Rattle.netlist.specs.Meaning.{tail, bit, word, output, input_bits}
use Rattle.netlist.proofs.Formed.{few_nets, driven_reads}
use Rattle.netlist.proofs.Inputs.{inputs_placed_lem}
use Rattle.netlist.proofs.Meanings.{tails_agree_lem, kept}
use Rattle.terms.specs.Sets.{holds, among, Own, Within, Top, SetOf, NetLaws}
use Rattle.terms.specs.Additions.{Ended, done, full, adding}
use Rattle.gates.specs.Reductions.{OutTerms, Put, TailTerms, Reduces, empty, bits, stops, step, Worked, goes}
use Rattle.terms.specs.Values.{every, set_on, value_under, bit_at}
use Rattle.gates.specs.Forms.{TermsOf, Keeps, RightEnd, ValueAtWords}
use Rattle.terms.proofs.Values.{value_at_agree}
use Rattle.gates.proofs.Lit.{on_among}
use Rattle.terms.proofs.Additions.{TermsAll, adding_keeps}
use Rattle.gates.proofs.Kept.{AllBelow, value_at_adding, value_at_step}

-- ---- a gate reads nets below its own
pub below_more : (m n : ℕ) → m ≤ n → (xs : List ℕ) → Below m xs → Below n xs
below_more m n l [] b = tt
below_more m n l (x ∷ xs) b = (omega (arith, b.0), below_more m n l xs b.1)

pub sets_more : (m n : ℕ) → m ≤ n → (us : List (List ℕ)) → AllBelow m us → AllBelow n us
sets_more m n l [] b = tt
sets_more m n l (xs ∷ us) b = (below_more m n l xs b.0, sets_more m n l us b.1)

pub tail_below : (g : Gate) (n : ℕ) → Below n (nets_of g) → AllBelow n (tail g)
tail_below (And x y) n b = (b, tt)
tail_below (Or x y) n b = ((b.0, tt), ((b.1.0, tt), (b, tt)))
tail_below (Xor x y) n b = ((b.0, tt), ((b.1.0, tt), tt))
tail_below (Nand x y) n b = (tt, (b, tt))
tail_below (Nor x y) n b = (tt, ((b.0, tt), ((b.1.0, tt), (b, tt))))
tail_below (Xnor x y) n b = (tt, ((b.0, tt), ((b.1.0, tt), tt)))
tail_below (Not x) n b = (tt, (b, tt))
tail_below (Buf x) n b = (b, tt)
tail_below Zero n b = tt
tail_below One n b = (tt, tt)

-- ---- members of the sets that come in
pub among_below : (n h : ℕ) (xs : List ℕ) → Below n xs → among h xs ≡ true → h < n
among_below n h [] b e = never (sym e)
among_below n h (x ∷ xs) b e =
    ⊎_elim (λ q. subst (λ y. y < n) (sym (eqb-true h x q)) b.0) (λ q. among_below n h xs b.1 q) (or_cases (eqb h x) (among h xs) e)

pub put_within : (s : NetSet) (g : ℕ) (xs : List ℕ) (u : NetSet) → Top s g → Below g xs → Put s g xs u → Within g u
put_within s g xs u top b p h e =
    ⊎_elim
    (λ q. let r = and_parts (holds s h) (not (eqb h g)) q in
    ⊎_elim
    (λ same. never (sym r.1 ∙ ap not (eq-eqb h g same)))
    (⊎_elim (λ l. l) (λ l. never (sym r.0 ∙ top.above h l)))
    (cases_order h g))
    (λ q. among_below g h xs b q)
    (or_cases (holds s h && not (eqb h g)) (among h xs) (sym (p.members h) ∙ e))

-- what each term that comes in has
abbrev pub Comes : ℕ → ℕ → Term NetSet → Type 0
Comes k n t = Own t.mono × Within n t.mono × (t.code < 2 ^ k)

pub tail_comes : (k c : ℕ) (s : NetSet) (g : ℕ) → c < 2 ^ k → Top s g → (us : List (List ℕ)) (adds : List (Term NetSet)) → AllBelow g us → TailTerms c s g us adds → TermsAll (Comes k g) adds
tail_comes k c s g q top [] [] b w = tt
tail_comes k c s g q top [] (t ∷ adds) b w = absurd w
tail_comes k c s g q top (xs ∷ us) [] b w = absurd w
tail_comes k c s g q top (xs ∷ us) (t ∷ adds) b w = ((w.1.own, put_within s g xs t.mono top b.0 w.1, subst (λ x. x < 2 ^ k) (sym w.0) q), tail_comes k c s g q top us adds b.1 w.2)

pub out_comes : (k n i : ℕ) (xs : List ℕ) (ts : List (Term NetSet)) → i + length xs ≤ k → Below n xs → OutTerms i xs ts → TermsAll (Comes k n) ts
out_comes k n i [] [] f b w = tt
out_comes k n i [] (t ∷ ts) f b w = absurd w
out_comes k n i (x ∷ xs) [] f b w = absurd w
out_comes k n i (x ∷ xs) (t ∷ ts) f b w = (
  (w.1.own, λ h e. among_below n h (x ∷ []) (b.0, tt) (sym (w.1.members h) ∙ e), subst (λ y. y < 2 ^ k) (sym w.0) (pow-lt {i = i} {j = k} (omega arith))),
  out_comes k n (suc i) xs ts (omega arith) b.1 w.2,
)

-- additions of such terms leave such terms
pub adding_terms : (c : Circuit) (cap n : ℕ) → n ≤ inputs c + length c.gates → (adds ts us : List (Term NetSet)) → TermsAll (Comes c.width n) adds → TermsOf c ts → adding net_model cap adds ts ≡ done us → TermsOf c us
adding_terms c cap n l =
    adding_keeps net_model cap (Comes c.width n) (TermsOf c)
    (λ t xs q r. record {
      own = added_monos net_model net_laws Own t.code t.mono q.0 xs r.own;
      falling = added_falling net_model net_laws t.code t.mono xs r.falling;
      nonzero = added_nonzero net_model net_laws t.code t.mono xs r.nonzero;
      driven = added_monos net_model net_laws (Within (inputs c + length c.gates)) t.code t.mono (λ g e. let h = q.1 g e in omega arith) xs r.driven;
      codes = added_codes net_model net_laws (λ a. a < 2 ^ c.width) t.code t.mono (xor_lt c.width) q.2 xs r.codes;
    })

-- ---- the start
module _ (v : ℕ → Bool) where
  pub set_on_one : (x : ℕ) (s : NetSet) → x < 256 → SetOf (x ∷ []) s → set_on v s ≡ v x
  set_on_one x s l p = (λ i. every 256 (λ h. not (p.members h i) || v h)) ∙ on_among 256 v (x ∷ []) (l, tt) ∙ and-true (v x)

  bit_weight : (b : Bool) (i : ℕ) → cond b (2 ^ i) 0 < 2 ^ suc i
  bit_weight true i = pow-lt {i = i} {j = suc i} (omega arith)
  bit_weight false i = pow_pos (suc i)

  place_value : (b : Bool) (i w : ℕ) → bit_xor (cond b (2 ^ i) 0) (w * 2 ^ suc i) ≡ (cond b 1 0 + 2 * w) * 2 ^ i
  place_value b i w = xor_comm (cond b (2 ^ i) 0) (w * 2 ^ suc i) ∙ xor_shifted w (suc i) (cond b (2 ^ i) 0) (bit_weight b i) ∙ sum b
    where
      twice : 2 ^ suc i ≡ 2 ^ i * 2
      twice = omega arith

      sum : (b : Bool) → w * 2 ^ suc i + cond b (2 ^ i) 0 ≡ (cond b 1 0 + 2 * w) * 2 ^ i
      sum true = rw twice (grind arith)
      sum false = rw twice (grind arith)

  pub value_at_outs : (i : ℕ) (xs : List ℕ) (ts : List (Term NetSet)) → Below 256 xs → OutTerms i xs ts → value_under v ts ≡ word (map v xs) * 2 ^ i
  value_at_outs i [] [] b w = sym (zero-mul (2 ^ i))
  value_at_outs i [] (t ∷ ts) b w = absurd w
  value_at_outs i (x ∷ xs) [] b w = absurd w
  value_at_outs i (x ∷ xs) (t ∷ ts) b w =
      ap₂ bit_xor (ap₂ (λ l d. cond l d 0) (set_on_one x t.mono b.0 w.1) w.0) (value_at_outs (suc i) xs ts b.1 w.2)
      ∙ place_value (v x) i (word (map v xs))

-- ---- the end
module _ (N : NetLaws) where
  -- a lesser set has no greater nets
  pub less_within : (n : ℕ) (s t : NetSet) → Own s → Own t → net_model.less s t ≡ true → Within n t → Within n s
  less_within n s t os ot l w h e =
      let r = (N.order s t os ot).0 l in
      ⊎_elim
      (λ same. never (sym e ∙ ap (holds s) same ∙ r.1.lacks))
      (⊎_elim (λ m. let k = w r.0 r.1.has in omega arith) (λ m. w h (sym (r.1.above h m) ∙ e)))
      (cases_order h r.0)

  pub under_within : (n : ℕ) (m : NetSet) → Own m → Within n m → (ts : List (Term NetSet)) → Monos Own ts → Under net_model m ts → Monos (Within n) ts
  under_within n m om w [] o u = tt
  under_within n m om w (t ∷ ts) o u = (less_within n t.mono m o.0 om u.0 w, under_within n m om w ts o.1 u.1)

  -- each step keeps the value of the terms, and no gate's net is left at the end
  pub steps_keep : (c : Circuit) (cap : ℕ) → WellFormed c → (ts : List (Term NetSet)) (e : Ended NetSet) → Reduces c cap ts e → TermsOf c ts → Keeps c ts e
  steps_keep c cap w ts e empty r = (r, tt, λ ins l. refl)
  steps_keep c cap w ts e (bits t rest h) r = (r, (h, under_within (inputs c) t.mono r.own.0 h rest r.own.1 r.falling.0), λ ins l. refl)
  steps_keep c cap w ts e (stops t rest adds us g top low tl f) r = tt
  steps_keep c cap w ts e (step t rest adds us g d top low tl don next) r =
      let s = t.mono in
      let gate = get_or c.gates (g - inputs c) Zero in
      let high : g < inputs c + length c.gates = r.driven.0 g top.has in
      let j : g - inputs c < length c.gates = omega arith in
      let at : inputs c + (g - inputs c) ≡ g = omega arith in
      let reads : AllBelow g (tail gate) = subst (λ n. AllBelow n (tail gate)) at (tail_below gate (inputs c + (g - inputs c)) (driven_reads c.gates (inputs c) (g - inputs c) w.driven j)) in
      let few : g < 256 = omega (arith, few_nets c w) in
      let left : TermsOf c rest = record { own = r.own.1; falling = r.falling.1; nonzero = r.nonzero.1; driven = r.driven.1; codes = r.codes.1 } in
      let now : TermsOf c us = adding_terms c cap g (omega arith) adds rest us (tail_comes c.width t.code s g r.codes.0 top (tail gate) adds reads tl) left don in
      let this : (ins : List Bool) → length ins ≡ inputs c → value_under (bit c ins) us ≡ value_under (bit c ins) (t ∷ rest) =
      λ ins l. value_at_step (bit c ins) cap t rest adds us g (tail gate) few top.has
      (ap (bit c ins) (sym at) ∙ tails_agree_lem c ins (g - inputs c) w l j) (sets_more g 256 (omega arith) (tail gate) reads) tl don in
      after c (t ∷ rest) us d this (steps_keep c cap w us d next now)
    where
      after : (c : Circuit) (ts us : List (Term NetSet)) (e : Ended NetSet) → ((ins : List Bool) → length ins ≡ inputs c → value_under (bit c ins) us ≡ value_under (bit c ins) ts) → Keeps c us e → Keeps c ts e
      after c ts us (done xs) h k = (k.0, k.1, λ ins l. k.2 ins l ∙ h ins l)
      after c ts us (full xs) h k = tt

  nothing_yet : (c : Circuit) → TermsOf c []
  nothing_yet c = record { own = tt; falling = tt; nonzero = tt; driven = tt; codes = tt }

  -- the whole working
  pub values_kept : (c : Circuit) (cap : ℕ) (e : Ended NetSet) → WellFormed c → Worked c cap e → RightEnd c e
  values_kept c cap e w (stops outs us o f) = tt
  values_kept c cap e w (goes outs us d o f r) = form d (steps_keep c cap w us d r begun)
    where
      begun : TermsOf c us
      begun = adding_terms c cap (inputs c + length c.gates) (omega arith) outs [] us (out_comes c.width (inputs c + length c.gates) 0 c.outs outs (omega (arith, w.as_wide)) w.outputs o) (nothing_yet c) f

      at_first : (ins : List Bool) → length ins ≡ inputs c → value_under (bit c ins) us ≡ output c ins
      at_first ins l =
          value_at_adding (bit c ins) cap outs [] us f ∙ xor_zero_r (value_under (bit c ins) outs)
          ∙ value_at_outs (bit c ins) 0 c.outs outs (below_more (inputs c + length c.gates) 256 (few_nets c w) c.outs w.outputs) o
          ∙ mul-one (output c ins)

      form : (d : Ended NetSet) → Keeps c us d → RightEnd c d
      form (full xs) k = tt
      form (done xs) k = record {
        own = k.0.own;
        falling = k.0.falling;
        nonzero = k.0.nonzero;
        no_gate = k.1;
        codes = k.0.codes;
        right = λ ins l. value_at_agree (λ g. get_or ins g false) (bit c ins) (inputs c) (λ i h. sym (kept ins c.gates i (omega arith))) xs k.1 ∙ k.2 ins l ∙ at_first ins l;
      }

-- ---- at input words
pub value_at_words : ValueAtWords
value_at_words c us xs w b l =
    let k = c.width in
    let ins = input_bits k xs in
    let placed = inputs_placed_lem k xs in
    let many : length ins ≡ inputs c = placed.many ∙ ap (λ n. n * k) l in
    let all : length xs * k ≡ inputs c = ap (λ n. n * k) l in
    value_at_agree (bit_at k xs) (λ g. get_or ins g false) (inputs c)
    (λ i h. sym (sym (kept ins c.gates i (omega arith)) ∙ placed.bit_of_net c i (omega arith))) us b.no_gate
    ∙ b.right ins many
