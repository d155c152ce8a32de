-- What the invariant of a netlist in memory gives.
use Rattle.std.proofs.Common.{◌≡◌, ℕ, zero, suc, ◌+◌, ◌-◌, ◌<◌, ◌≤◌, List, [], ◌∷◌, length, get_or, Bor, Option, Some, None, MatchOption, option_copied, sym, refl, subst, add-zero, mul-le-mul, arith}
use Rattle.std.specs.List.{HoldsAt}
use mathlib.Core.Logic.{∥∥₁_elim}
use native.Mathlib.Nat.{ℕ_set}
use native.Mathlib.Bridge.{le_prop}
use Rattle.bounded.specs.Items.{items}
use Rattle.netlist.specs.declared.gate.Gate.{Gate}
use Rattle.netlist.specs.declared.gate.Gate.TheVariants.{Zero}
use Rattle.netlist.specs.declared.circuit.Netlist.{Netlist}
use Rattle.netlist.specs.Circuits.{Circuit, WellFormed, InRange, Driven, Below, inputs, nets, nets_of}
use Rattle.netlist.specs.Netlists.{circuit, DriverIs}
use Rattle.netlist.proofs.Runs.{few_inputs, driven_few}

-- a circuit is well formed in one way only
below_prop : (d : ℕ) (vs : List ℕ) → IsProp (Below d vs)
below_prop d [] x y = refl
below_prop d (v ∷ vs) x y = λ i. (le_prop x.0 y.0 i, below_prop d vs x.1 y.1 i)

driven_prop : (gs : List Gate) (d : ℕ) → IsProp (Driven d gs)
driven_prop [] d x y = refl
driven_prop (g ∷ gs) d x y = λ i. (le_prop x.0 y.0 i, below_prop d (nets_of g) x.1 y.1 i, driven_prop gs (d + 1) x.2 y.2 i)

range_prop : (n k : ℕ) → IsProp (InRange n k)
range_prop n k x y = λ i. record {
  some_word = le_prop x.some_word y.some_word i;
  few_words = le_prop x.few_words y.few_words i;
  some_bits = le_prop x.some_bits y.some_bits i;
  few_bits = le_prop x.few_bits y.few_bits i;
}

formed_prop : (c : Circuit) → IsProp (WellFormed c)
formed_prop c x y = λ i. record {
  range = range_prop c.words c.width x.range y.range i;
  driven = driven_prop c.gates (inputs c) x.driven y.driven i;
  as_wide = ℕ_set _ _ x.as_wide y.as_wide i;
  outputs = below_prop (nets c) c.outs x.outputs y.outputs i;
}

pub formed : (t : Netlist) → WellFormed (circuit t)
formed t = ∥∥₁_elim t.formed (formed_prop (circuit t)) (λ w. w)

-- some input net
some_input : (c : Circuit) → WellFormed c → 2 ≤ inputs c
some_input c w = let h = mul-le-mul w.range.some_word w.range.some_bits in omega arith

-- at most 256 nets
pub few_nets : (c : Circuit) → WellFormed c → nets c ≤ 256
few_nets c w =
    let h = few_inputs c.words c.width w.range in
    driven_few c.gates (inputs c) (omega arith) w.driven

-- each gate reads nets below its own
pub driven_reads : (gs : List Gate) (d j : ℕ) → Driven d gs → j < length gs → Below (d + j) (nets_of (get_or gs j Zero))
driven_reads [] d j h l = absurd (omega arith)
driven_reads (g ∷ gs) d zero h l = subst (λ n. Below n (nets_of g)) (sym (add-zero d)) h.1
driven_reads (g ∷ gs) d (suc j) h l =
    let e : d + 1 + j ≡ d + suc j = omega arith in
    subst (λ n. Below n (nets_of (get_or gs j Zero))) e (driven_reads gs (d + 1) j h.2 (omega arith))

low_at : (d : ℕ) (vs : List ℕ) (i : ℕ) → 0 < d → Below d vs → get_or vs i 0 < d
low_at d [] i l b = l
low_at d (v ∷ vs) zero l b = b.0
low_at d (v ∷ vs) (suc i) l b = low_at d vs i l b.1

module _ (t : Netlist) where
  pub few_places : inputs (circuit t) + length (items t.gates) ≤ 256
  few_places = few_nets (circuit t) (formed t)

  pub driver_is : (x : ℕ) (r : Option (Bor Gate)) → inputs (circuit t) ≤ x
      → MatchOption r (length (items t.gates) ≤ x - inputs (circuit t)) (λ g. (x - inputs (circuit t) < length (items t.gates)) × HoldsAt (λ y. g.now ≡ y) (items t.gates) (x - inputs (circuit t)))
      → DriverIs (circuit t) x (option_copied r)
  driver_is x None low h = λ l u. omega arith
  driver_is x (Some g) low h =
      let w = formed t in
      let j = x - inputs (circuit t) in
      let sum : inputs (circuit t) + j ≡ x = omega arith in
      let own = driven_reads (circuit t).gates (inputs (circuit t)) j w.driven h.0 in
      (low, omega (arith, h.0), h.1 Zero, subst (λ n. Below n (nets_of g.now)) sum (subst (λ y. Below (inputs (circuit t) + j) (nets_of y)) (sym (h.1 Zero)) own))

  -- an output net is driven, and so is net 0
  pub output_driven : (i : ℕ) → get_or (circuit t).outs i 0 < nets (circuit t)
  output_driven i =
      let w = formed t in
      let some = some_input (circuit t) w in
      low_at (nets (circuit t)) (circuit t).outs i (omega arith) w.outputs
