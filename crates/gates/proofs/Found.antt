-- What the working's answers say, from its end. Assumes nothing.
use Rattle.std.proofs.Common.{◌≡◌, ℕ, ◌-◌, ◌<◌, ◌≤◌, ◌++◌, true, false, List, length, replicate, Ok, Err, Result, sym, ap, ap₂, ◌∙◌}
use Rattle.std.proofs.lemmas.Bool.{true≢false}
use Rattle.std.proofs.lemmas.List.{length-take-le, take-append-drop}
use Rattle.std.specs.Result.{is_ok, is_err}
use Rattle.fault.specs.declared.Fault.{Fault}
use Rattle.fault.specs.declared.Fault.TheVariants.{BitTableFull, TooManyBitTerms}
use Rattle.terms.specs.Additions.{Ended, done, full}
use Rattle.terms.specs.declared.Term.{Term}
use Rattle.terms.specs.declared.table.Full.{Full}
use Rattle.terms.specs.declared.table.TermTable.{TermTable}
use Rattle.terms.specs.Lent.{live, capacity, Kept}
use Rattle.terms.specs.Nets.{net_model}
use Rattle.terms.specs.Terms.{blank}
use Rattle.terms.specs.declared.nets.NetSet.{NetSet}
use Rattle.terms.proofs.Members.{laws_of_sets}
use Rattle.netlist.specs.Circuits.{Circuit, WellFormed}
use Rattle.gates.specs.Answers.{Found, Refused, no_row, too_many, Reached, Answered}
use Rattle.gates.specs.Forms.{OnlyEnd}
use Rattle.gates.specs.Reductions.{Worked}
use Rattle.gates.specs.Tails.{ended}
use Rattle.gates.proofs.Ends.{values_kept}
use Rattle.gates.proofs.Once.{one_end}
use Rattle.gates.proofs.Sole.{only_form}

only : (c : Circuit) (cap : ℕ) (e : Ended NetSet) → Worked c cap e → OnlyEnd c cap e
only c cap e w d v = one_end laws_of_sets c cap d e v w

module _ (c : Circuit) (cap : ℕ) (us : List (Term NetSet)) where
  pub found : WellFormed c → (r : Result (Unit {0}) Full) → is_ok r ≡ true → Worked c cap (ended r us) → length us ≤ 256 → Found c cap us
  found f (Ok x) e w l =
      let form = values_kept laws_of_sets c cap (done us) f w in
      record { worked = w; only = only c cap (done us) w; form = form; sole = λ vs v. only_form c vs us v form; few = l }
  found f (Err x) e w l = absurd (true≢false (sym e))

  pub refused_many : (r : Result (Unit {0}) Full) → is_ok r ≡ true → Worked c cap (ended r us) → 256 < length us → Refused c cap TooManyBitTerms
  refused_many (Ok x) e w l = too_many us w (only c cap (done us) w) l
  refused_many (Err x) e w l = absurd (true≢false (sym e))

  pub refused_full : (r : Result (Unit {0}) Full) → is_ok r ≡ false → Worked c cap (ended r us) → Refused c cap BitTableFull
  refused_full (Ok x) e w = absurd (true≢false e)
  refused_full (Err x) e w = no_row us w (only c cap (full us) w)

-- where the working answers no refusal, the table that it kept holds the answer
pub answered : (c : Circuit) (t t' : TermTable NetSet) (r : Result ℕ Fault) → is_err r ≡ false → Kept net_model t t' → Reached c (capacity t) r (live t') → Answered c (capacity t) r t'.rows.now
answered c t t' (Ok n) e k a =
    let l : length (live t') ≡ t'.len = length-take-le t'.len t'.rows.now k.table.within in
    (live t', a.0, a.1, sym (take-append-drop t'.len t'.rows.now) ∙ ap (λ xs. live t' ++ xs) (k.table.rest ∙ ap₂ (λ x y. replicate (x - y) (blank net_model)) k.room (sym l)))
answered c t t' (Err x) e k a = absurd (true≢false e)
