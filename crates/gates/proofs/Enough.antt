-- The working always ends, and some number of rows suffices. Assumes nothing.
use Rattle.std.proofs.Common.{◌≡◌, ℕ, zero, suc, ◌+◌, ◌-◌, ◌<◌, ◌≤◌, false, ◌||◌, eqb, ◌⊎◌, List, [], ◌∷◌, length, get_or, sym, refl, ap, ◌∙◌, inl, inr, ⊎_elim, not-suc-le-zero, arith}
use Rattle.std.proofs.Math.Bool.{or-false}
use Rattle.std.proofs.lemmas.Bool.{cases_Bool, cases_lt, cases_eq}
use Rattle.terms.specs.Terms.{added}
use Rattle.terms.specs.Nets.{net_model}
use Rattle.terms.specs.declared.Term.{Term}
use Rattle.terms.specs.declared.nets.NetSet.{NetSet}
use Rattle.netlist.specs.declared.gate.Gate.TheVariants.{Zero}
use Rattle.netlist.specs.Circuits.{Circuit, WellFormed, Below, inputs}
use Rattle.netlist.specs.Meaning.{tail}
use Rattle.terms.specs.Sets.{holds, among, Own, Within, Top}
use Rattle.terms.specs.Additions.{Ended, done, full, adding}
use Rattle.gates.specs.Reductions.{TailTerms, Reduces, empty, bits, stops, step}
use Rattle.gates.specs.Forms.{TermsOf, EnoughRows, AlwaysEnds}
use Rattle.gates.specs.Tails.{Joined, Joins, each}
use Rattle.gates.proofs.Kept.{AllBelow}
use Rattle.terms.proofs.Members.{laws_of_sets, never}
use Rattle.terms.proofs.Changes.{single, single_net, taken_out}
use Rattle.gates.proofs.Unions.{or_once, joined_one}
use Rattle.netlist.proofs.Formed.{driven_reads, few_nets}
use Rattle.gates.proofs.Ends.{tail_below, sets_more}
use Rattle.terms.proofs.Additions.{adding_on, adding_more}
use Rattle.terms.proofs.Sole.{sums}
use Rattle.gates.proofs.Once.{reduces_more}
use Rattle.gates.proofs.Falls.{height, joins_tail, turned}
use Rattle.gates.proofs.Outs.{out_terms, starts, goes_on, stops_there}

-- ---- sets by their nets
abbrev join : NetSet → List ℕ → NetSet
join s [] = s
join s (x ∷ xs) = join (net_model.times s (single x)) xs

joined_list : (s : NetSet) (xs : List ℕ) → Own s → Below 256 xs → Joined s xs (join s xs)
joined_list s [] o b = record { own = o; members = λ h. sym (or-false (holds s h)) }
joined_list s (x ∷ xs) o b =
    let p = joined_one s (single x) x o (single_net x b.0) in
    let q = joined_list (net_model.times s (single x)) xs p.own b.1 in
    record { own = q.own; members = λ h. q.members h ∙ ap (λ y. y || among h xs) (p.members h) ∙ or_once (holds s h) (eqb h x) (among h xs) }

abbrev joins : NetSet → List (List ℕ) → List NetSet
joins s [] = []
joins s (xs ∷ xss) = join s xs ∷ joins s xss

joined_lists : (s : NetSet) (xss : List (List ℕ)) → Own s → AllBelow 256 xss → Joins s xss (joins s xss)
joined_lists s [] o b = tt
joined_lists s (xs ∷ xss) o b = (joined_list s xs o b.0, joined_lists s xss o b.1)

-- ---- the greatest net
find_top : (s : NetSet) (n : ℕ) → ((h : ℕ) → n ≤ h → holds s h ≡ false) → ((g : ℕ) × Top s g) ⊎ ((h : ℕ) → holds s h ≡ false)
find_top s zero a = inr (λ h. a h (omega arith))
find_top s (suc n) a =
    ⊎_elim
    (λ e. inl (n, record { has = e; above = λ h l. a h (omega arith) }))
    (λ e. find_top s n (λ h l. ⊎_elim (λ q. ap (holds s) (sym q) ∙ e) (λ d. a h (omega arith)) (cases_eq n h)))
    (cases_Bool (holds s n))

top_of : (s : NetSet) → Own s → ((g : ℕ) × Top s g) ⊎ ((h : ℕ) → holds s h ≡ false)
top_of s o = find_top s 256 (λ h l. ⊎_elim (λ e. absurd (let m = laws_of_sets.few s o h e in omega arith)) (λ e. e) (cases_Bool (holds s h)))

-- ---- additions with rows enough
abbrev wanted : List (Term NetSet) → List (Term NetSet) → ℕ
wanted [] ts = 0
wanted (t ∷ adds) ts = length (added net_model t.code t.mono ts) + wanted adds (added net_model t.code t.mono ts)

adding_all : (cap : ℕ) (adds ts : List (Term NetSet)) → wanted adds ts ≤ cap → adding net_model cap adds ts ≡ done (sums adds ts)
adding_all cap [] ts l = refl
adding_all cap (t ∷ adds) ts l =
    let next = added net_model t.code t.mono ts in
    adding_on net_model cap t adds ts (omega arith) ∙ adding_all cap adds next (omega arith)

-- how a list of terms goes on
data Goes (c : Circuit) (t : Term NetSet) (rest : List (Term NetSet)) : Type 0 where
  over : Within (inputs c) t.mono → Goes c t rest
  on : (g : ℕ) (adds : List (Term NetSet)) → Top t.mono g → inputs c ≤ g → TailTerms t.code t.mono g (tail (get_or c.gates (g - inputs c) Zero)) adds → Goes c t rest

goes_how : (c : Circuit) → WellFormed c → (t : Term NetSet) (rest : List (Term NetSet)) → TermsOf c (t ∷ rest) → Goes c t rest
goes_how c w t rest r =
    ⊎_elim
    (λ p. let g = p.0 in let top = p.1 in
    ⊎_elim
    (λ l. over (λ h e. ⊎_elim (λ m. never (sym e ∙ top.above h m)) (λ m. omega arith) (cases_lt g h)))
    (λ low.
    let s = t.mono in
    let gate = get_or c.gates (g - inputs c) Zero in
    let high : g < inputs c + length c.gates = r.driven.0 g top.has in
    let few = few_nets c w in
    let j : g - inputs c < length c.gates = omega arith in
    let reads : AllBelow 256 (tail gate) = sets_more (inputs c + (g - inputs c)) 256 (omega arith) (tail gate) (tail_below gate (inputs c + (g - inputs c)) (driven_reads c.gates (inputs c) (g - inputs c) w.driven j)) in
    let out = taken_out s g (omega arith) r.own.0 in
    let x = out.0 in
    on g (each t.code (joins x (tail gate))) top low
    (joins_tail t.code s x g out.1.members (tail gate) (joins x (tail gate)) (joined_lists x (tail gate) out.1.own reads)))
    (cases_lt g (inputs c)))
    (λ a. over (λ h e. never (sym e ∙ a h)))
    (top_of t.mono r.own.0)

-- ---- some number of rows suffices
enough : (c : Circuit) → WellFormed c → (n : ℕ) (ts : List (Term NetSet)) → TermsOf c ts → height ts ≤ n → (cap : ℕ) × (us : List (Term NetSet)) × Reduces c cap ts (done us)
enough c w n [] r l = (0, [], empty)
enough c w zero (t ∷ rest) r l = absurd (not-suc-le-zero l)
enough c w (suc n) (t ∷ rest) r l =
    elim (goes_how c w t rest r) [
      | over h ↦ (0, t ∷ rest, bits t rest h)
      | on g adds top low tl ↦
          let next = sums adds rest in
          let one : adding net_model (wanted adds rest) adds rest ≡ done next = adding_all (wanted adds rest) adds rest (omega arith) in
          let turn = turned c w (wanted adds rest) t rest adds g top low tl r (done next) one in
          let falls = turn.1 in
          let more = enough c w n next turn.0 (omega arith) in
          let cap = wanted adds rest + more.0 in (
            cap,
            more.1,
            step t rest adds next g (done more.1) top low tl (adding_more net_model (wanted adds rest) cap (omega arith) adds rest next one)
                (reduces_more c more.0 cap (omega arith) next (done more.1) more.2),
          )
    ]

pub enough_rows : EnoughRows
enough_rows c w =
    let outs = out_terms 0 c.outs in
    let first = sums outs [] in
    let one : adding net_model (wanted outs []) outs [] ≡ done first = adding_all (wanted outs []) outs [] (omega arith) in
    let more = enough c w (height first) first (starts c (wanted outs []) first w one) (omega arith) in
    let cap = wanted outs [] + more.0 in (
      cap,
      more.1,
      goes_on c cap first (done more.1) w (adding_more net_model (wanted outs []) cap (omega arith) outs [] first one)
          (reduces_more c more.0 cap (omega arith) first (done more.1) more.2),
    )

-- ---- an end for every number of rows
data Adds (cap : ℕ) (adds ts : List (Term NetSet)) : Type 0 where
  fits : (us : List (Term NetSet)) → adding net_model cap adds ts ≡ done us → Adds cap adds ts
  fails : (us : List (Term NetSet)) → adding net_model cap adds ts ≡ full us → Adds cap adds ts

adds_how : (cap : ℕ) (adds ts : List (Term NetSet)) → Adds cap adds ts
adds_how cap adds ts = which (adding net_model cap adds ts) refl
  where
    which : (e : Ended NetSet) → adding net_model cap adds ts ≡ e → Adds cap adds ts
    which (done us) q = fits us q
    which (full us) q = fails us q

ends : (c : Circuit) → WellFormed c → (cap n : ℕ) (ts : List (Term NetSet)) → TermsOf c ts → height ts ≤ n → (e : Ended NetSet) × Reduces c cap ts e
ends c w cap n [] r l = (done [], empty)
ends c w cap zero (t ∷ rest) r l = absurd (not-suc-le-zero l)
ends c w cap (suc n) (t ∷ rest) r l =
    elim (goes_how c w t rest r) [
      | over h ↦ (done (t ∷ rest), bits t rest h)
      | on g adds top low tl ↦
          elim (adds_how cap adds rest) [
            | fits next one ↦
                let turn = turned c w cap t rest adds g top low tl r (done next) one in
                let falls = turn.1 in
                let more = ends c w cap n next turn.0 (omega arith) in
                (more.0, turn.2 more.0 more.1)
            | fails us f ↦ (full us, stops t rest adds us g top low tl f)
          ]
    ]

pub always_ends : AlwaysEnds
always_ends c cap w =
    elim (adds_how cap (out_terms 0 c.outs) []) [
      | fits first one ↦
          let more = ends c w cap (height first) first (starts c cap first w one) (omega arith) in
          (more.0, goes_on c cap first more.0 w one more.1)
      | fails us f ↦ (full us, stops_there c cap us w f)
    ]
