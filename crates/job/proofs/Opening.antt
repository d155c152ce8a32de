-- A job's field and its opening. Assumes nothing.
use Rattle.std.proofs.Common.{◌≡◌, ℕ, ◌≤◌, List, [], ◌∷◌, length, get_or, Some, None, Ok, Err, Option, Result, sym, ap, subst, arith, MatchOption, MatchResult}
use Rattle.algebra.specs.Field.{FieldLaws}
use Rattle.algebra.specs.Shift.{shift_data}
use Rattle.algebra.proofs.ShiftLaws.{shift_laws}
use Rattle.field.specs.Refusals.{ShiftRefused}
use Rattle.field.specs.declared.shift.Shift.{Shift}
use Rattle.fault.specs.declared.Fault.{Fault}
use Rattle.lines.specs.Text.{Line}
use Rattle.lines.specs.declared.Head.TheVariants.{Words}
use Rattle.netlist.specs.Refusals.{Accepted, Refused, bad_first, bad_entry, bytes_after, no_words, words_form, sizes_range, sizes_others}
use Rattle.netlist.specs.Circuits.{Circuit}
use Rattle.lines.proofs.Same.{same_line}
use Rattle.job.specs.Jobs.{Parts, default_polynomial, FieldPolynomial, default, NoPolynomial, unnamed, NoDefault, WordsGiven, Makes, NoField, no_polynomial, makes_none, Prepared, Opened, NotOpened, no_field, field, reader}

-- a words line has two numbers, whatever the width
pub words_line : (j k : ℕ) {s vs rest : List ℕ} → Line j s Words vs rest → Line k s Words vs rest
words_line j k l = record { few = l.few; many = l.many; small = l.small; bytes = l.bytes }

-- the default for the bits that a words line gives
pub given_default : {s rest : List ℕ} {n k : ℕ} (r : Option ℕ) → Line 0 s Words (n ∷ k ∷ []) rest → MatchOption r (NoDefault k) (λ p. (2 ≤ k) × (k ≤ 8) × (p ≡ default_polynomial k))
    → MatchOption r (NoPolynomial s None) (FieldPolynomial s None)
given_default None l h = unnamed (λ a b more m. subst NoDefault (ap (λ (xs : List ℕ). get_or xs 1 0) (same_line l m).same_list) h)
given_default {s} {rest} {n} {k} (Some p) l h = subst (FieldPolynomial s None) (sym h.2) (default n k rest l h.0 h.1)

-- a netlist that is refused for no words has no words line that gives a number of bits with a default
pub any_sizes : {s : List ℕ} {f : Fault} → ((n k : ℕ) (rest : List ℕ) → Line 0 s Words (n ∷ k ∷ []) rest → NoDefault k) → Refused 0 0 s f → (n k : ℕ) → Refused n k s f
any_sizes none (bad_first (no_words e)) n k = bad_first (no_words e)
any_sizes none (bad_first (words_form some h)) n k = bad_first (words_form some (λ vs rest l. h vs rest (words_line k 0 l)))
any_sizes none (bad_first (sizes_range a b rest l h)) n k = bad_first (sizes_range a b rest (words_line 0 k l) h)
any_sizes none (bad_first (sizes_others a b rest l r h)) n k = absurd (none a b rest l r.some_bits r.few_bits)
any_sizes none (bad_entry gs rest begun h) n k = absurd (omega (arith, begun.range.some_word))
any_sizes none (bytes_after gs outs rest begun e d h) n k = absurd (omega (arith, begun.range.some_word))

-- the field of a job has the laws
pub field_laws : {p k : ℕ} → Makes p k → FieldLaws (shift_data k p)
field_laws {p} {k} m = shift_laws k p m.narrow m.wide m.degree m.irreducible

-- a job whose netlist is refused
pub unread : {job netlist : List ℕ} {p k n : ℕ} {f : Fault} → Prepared job p k n netlist → Refused n k netlist f → NotOpened job f
unread {job} {netlist} {p} {k} {n} r x = reader r.name netlist p k n r.short r.parts r.polynomial r.field r.words x

-- and one whose netlist is accepted
pub opened : {job netlist : List ℕ} {p k n : ℕ} {c : Circuit} → Prepared job p k n netlist → Accepted n k netlist c → Opened job p k c.words c
opened {job} {netlist} {p} {k} {n} {c} r a = record {
  short = r.short;
  name = r.name;
  netlist = netlist;
  parts = r.parts;
  polynomial = r.polynomial;
  field = r.field;
  words = subst (WordsGiven netlist) (sym a.words) r.words;
  accepted = subst (λ (i : ℕ). Accepted i k netlist c) (sym a.words) a;
}

-- a job with no field
pub fieldless : {job netlist : List ℕ} {name : Option ℕ} {f : Fault} → length job ≤ 16384 → Parts job name netlist → NoField netlist name f → NotOpened job f
fieldless {job} {netlist} {name} short parts (no_polynomial x y) = no_field name netlist short parts x y
fieldless {job} {netlist} {name} short parts (makes_none p x y) = field name netlist p short parts x y

-- the field of a polynomial, or why there is none
pub fielded : (netlist : List ℕ) (name : Option ℕ) (q : ℕ) (r : Result Shift Fault) → FieldPolynomial netlist name q → MatchResult r (λ s. s.p ≡ q) (ShiftRefused q)
    → MatchResult r (λ f. FieldPolynomial netlist name f.p) (NoField netlist name)
fielded netlist name q (Ok f) x e = subst (FieldPolynomial netlist name) (sym e) x
fielded netlist name q (Err f) x e = makes_none q x e
