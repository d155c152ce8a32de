-- The output terms, one after another. Assumes nothing.
use Rattle.std.proofs.Common.{◌≡◌, ℕ, zero, suc, ◌+◌, ◌*◌, ◌%◌, ◌^◌, ◌<◌, List, [], ◌∷◌, length, get_or, drop, sym, refl, ap, ◌∙◌, ap₂, subst, not-suc-le-zero, arith}
use Rattle.std.proofs.lemmas.List.{at_drop_more}
use Rattle.std.proofs.lemmas.Nat.{one_shl}
use Rattle.terms.specs.Terms.{term}
use Rattle.terms.specs.Nets.{net_model}
use Rattle.terms.specs.Sets.{SetOf}
use Rattle.terms.specs.Additions.{Ended, done, full, adding}
use Rattle.terms.specs.declared.Term.{Term}
use Rattle.terms.specs.declared.nets.NetSet.{NetSet}
use Rattle.terms.proofs.Changes.{single, single_net}
use Rattle.terms.proofs.Members.{laws_of_sets}
use Rattle.netlist.specs.Circuits.{Below, Circuit, WellFormed, nets}
use Rattle.gates.specs.Reductions.{OutTerms, Reduces, Worked, stops, goes}
use Rattle.gates.specs.Forms.{TermsOf}
use Rattle.netlist.proofs.Formed.{few_nets}
use Rattle.gates.proofs.Ends.{below_more, adding_terms, out_comes}

-- the output terms, written out
abbrev pub out_terms : ℕ → List ℕ → List (Term NetSet)
out_terms i [] = []
out_terms i (x ∷ xs) = term (2 ^ i) (single x) ∷ out_terms (suc i) xs

pub outs_are : (i : ℕ) (xs : List ℕ) → Below 256 xs → OutTerms i xs (out_terms i xs)
outs_are i [] b = tt
outs_are i (x ∷ xs) b = (refl, single_net x b.0, outs_are (suc i) xs b.1)

pub outs_long : (i : ℕ) (os : List ℕ) (outs : List (Term NetSet)) → OutTerms i os outs → length outs ≡ length os
outs_long i [] [] w = refl
outs_long i [] (t ∷ ts) w = absurd w
outs_long i (x ∷ xs) [] w = absurd w
outs_long i (x ∷ xs) (t ∷ ts) w = ap suc (outs_long (suc i) xs ts w.2)

-- output term j is the one that the program makes
out_at : (i j : ℕ) (os : List ℕ) (outs : List (Term NetSet)) (d : Term NetSet) (u : NetSet) → OutTerms i os outs → j < length os → SetOf (get_or os j 0 ∷ []) u → get_or outs j d ≡ term (2 ^ (i + j)) u
out_at i j [] outs d u w l p = absurd (not-suc-le-zero l)
out_at i j (x ∷ xs) [] d u w l p = absurd w
out_at i zero (x ∷ xs) (t ∷ ts) d u w l p =
    let m : t.mono ≡ u = laws_of_sets.only t.mono u w.1.own p.own (λ h. w.1.members h ∙ sym (p.members h)) in
    let e : i ≡ i + 0 = omega arith in
    ap₂ (λ c s. term c s) (w.0 ∙ ap (λ n. 2 ^ n) e) m
out_at i (suc j) (x ∷ xs) (t ∷ ts) d u w l p =
    let e : suc i + j ≡ i + suc j = omega arith in
    out_at (suc i) j xs ts d u w.2 (omega arith) p ∙ ap (λ n. term (2 ^ n) u) e

-- what is left to add, with the next term before it, as the program makes it
pub outs_more : (c : Circuit) → WellFormed c → (cap i x : ℕ) (u : NetSet) (outs ts : List (Term NetSet)) → OutTerms 0 c.outs outs → i < c.width → x ≡ get_or c.outs i 0 → SetOf (x ∷ []) u
    → adding net_model cap (drop i outs) ts ≡ adding net_model cap (term ((1 * 2 ^ i) % 2 ^ 16) u ∷ drop (i + 1) outs) ts
outs_more c w cap i x u outs ts o l e p =
    let code = (1 * 2 ^ i) % 2 ^ 16 in
    let shifted : code ≡ 2 ^ i = one_shl i 16 (omega (arith, w.range.few_bits)) in
    let long = outs_long 0 c.outs outs o in
    let n : 0 + i ≡ i = omega arith in
    at_drop_more (λ xs. adding net_model cap xs ts) outs i (term code u) (omega (arith, w.as_wide))
    ∙ ap (λ t. adding net_model cap (t ∷ drop (i + 1) outs) ts)
    (out_at 0 i c.outs outs (term code u) u o (omega (arith, w.as_wide)) (subst (λ y. SetOf (y ∷ []) u) e p) ∙ ap (λ b. term b u) (ap (λ k. 2 ^ k) n ∙ sym shifted))

-- ---- the start of the working
pub below_few : (c : Circuit) → WellFormed c → Below 256 c.outs
below_few c w = below_more (nets c) 256 (few_nets c w) c.outs w.outputs

pub from_empty : (c : Circuit) → WellFormed c → (cap : ℕ) (ts : List (Term NetSet)) (e : Ended NetSet) → ts ≡ [] → ((outs : List (Term NetSet)) → OutTerms 0 c.outs outs → adding net_model cap outs ts ≡ e)
    → adding net_model cap (out_terms 0 c.outs) [] ≡ e
from_empty c w cap ts e q f = subst (λ xs. adding net_model cap (out_terms 0 c.outs) xs ≡ e) q (f (out_terms 0 c.outs) (outs_are 0 c.outs (below_few c w)))

pub starts : (c : Circuit) (cap : ℕ) (us : List (Term NetSet)) → WellFormed c → adding net_model cap (out_terms 0 c.outs) [] ≡ done us → TermsOf c us
starts c cap us w f =
    adding_terms c cap (nets c) (omega arith) (out_terms 0 c.outs) [] us
    (out_comes c.width (nets c) 0 c.outs (out_terms 0 c.outs) (omega (arith, w.as_wide)) w.outputs (outs_are 0 c.outs (below_few c w)))
    (record { own = tt; falling = tt; nonzero = tt; driven = tt; codes = tt }) f

pub goes_on : (c : Circuit) (cap : ℕ) (us : List (Term NetSet)) (e : Ended NetSet) → WellFormed c → adding net_model cap (out_terms 0 c.outs) [] ≡ done us → Reduces c cap us e → Worked c cap e
goes_on c cap us e w f r = goes (out_terms 0 c.outs) us e (outs_are 0 c.outs (below_few c w)) f r

pub stops_there : (c : Circuit) (cap : ℕ) (us : List (Term NetSet)) → WellFormed c → adding net_model cap (out_terms 0 c.outs) [] ≡ full us → Worked c cap (full us)
stops_there c cap us w f = stops (out_terms 0 c.outs) us (outs_are 0 c.outs (below_few c w)) f
