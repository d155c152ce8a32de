-- The two kinds keep the laws. Assumes nothing.
use Rattle.std.specs.Prelude.{◌≡◌, ℕ, zero, suc, ◌+◌, ◌-◌, ◌<◌, ◌≤◌, true, ltb, List, [], ◌∷◌, reverse, length, take, ◌≢◌, bit_or, nat_le, nat_lt, slice_index, refl}
use Rattle.std.proofs.Common.{sym, ap, ap₂, subst, ◌∙◌, le_of_suc-le-suc, not-suc-le-zero, arith}
use Rattle.std.proofs.lemmas.Bool.{leb-true, and_parts, false≢true}
use Rattle.std.proofs.lemmas.List.{get_or-reverse, length-reverse, take_more_same}
use Rattle.terms.specs.Kind.{KindLaws}
use Rattle.terms.specs.Counts.{net_set}
use Rattle.terms.specs.Numbers.{lex, paired, inside}
use Rattle.terms.specs.Nets.{net_model, full_words}
use Rattle.terms.specs.Exps.{joined, exp_model}
use Rattle.terms.specs.NumbersLemmas.{lex_at, lex_irrefl, lex_trans, lex_total, reversed_same, AllJoin, zeros, zeros_inside, paired_inside, paired_unit, paired_comm, paired_assoc, or_joins, joined_joins}

abbrev union : ℕ → ℕ → ℕ → ℕ
union l = bit_or

words_join : AllJoin union full_words
words_join = (or_joins, (or_joins, (or_joins, (or_joins, tt))))

pub net_laws : KindLaws net_model
net_laws = record {
  unit_own = zeros_inside full_words;
  times_own = λ a b u v. paired_inside union full_words a.words b.words words_join u v;
  unit_times = λ a u. ap net_set (paired_unit union full_words a.words words_join u);
  times_comm = λ a b u v. ap net_set (paired_comm union full_words a.words b.words words_join u v);
  times_assoc = λ a b c u v w. ap net_set (paired_assoc union full_words a.words b.words c.words words_join u v w);
  less_irrefl = λ a. lex_irrefl (reverse a.words);
  less_trans = λ a b c. lex_trans (reverse a.words) (reverse b.words) (reverse c.words);
  less_total = λ a b e f. ap net_set (reversed_same a.words b.words (lex_total (reverse a.words) (reverse b.words) e f));
}

as_none : (zs : List ℕ) → length zs ≡ 0 → zs ≡ []
as_none [] l = refl
as_none (a ∷ zs) l = absurd (omega arith)

as_one : (zs : List ℕ) → length zs ≡ 1 → zs ≡ slice_index zs 0 ∷ []
as_one [] l = absurd (omega arith)
as_one (a ∷ zs) l = ap (λ xs. a ∷ xs) (as_none zs (omega arith))

as_two : (zs : List ℕ) → length zs ≡ 2 → zs ≡ slice_index zs 0 ∷ (slice_index zs 1 ∷ [])
as_two [] l = absurd (omega arith)
as_two (a ∷ zs) l = ap (λ xs. a ∷ xs) (as_one zs (omega arith))

-- a list of three, and of four, by its places
pub as_three : (zs : List ℕ) → length zs ≡ 3 → zs ≡ slice_index zs 0 ∷ (slice_index zs 1 ∷ (slice_index zs 2 ∷ []))
as_three [] l = absurd (omega arith)
as_three (a ∷ zs) l = ap (λ xs. a ∷ xs) (as_two zs (omega arith))

pub as_four : (zs : List ℕ) → length zs ≡ 4 → zs ≡ slice_index zs 0 ∷ (slice_index zs 1 ∷ (slice_index zs 2 ∷ (slice_index zs 3 ∷ [])))
as_four [] l = absurd (omega arith)
as_four (a ∷ zs) l = ap (λ xs. a ∷ xs) (as_three zs (omega arith))

tops_join : (tops : List ℕ) → AllJoin joined tops
tops_join [] = tt
tops_join (t ∷ ts) = (joined_joins t, tops_join ts)

three_zeros : (tops : List ℕ) → length tops ≡ 3 → zeros tops ≡ 0 ∷ (0 ∷ (0 ∷ []))
three_zeros tops l = ap zeros (as_three tops l)

pub exp_laws : (tops : List ℕ) → length tops ≡ 3 → KindLaws (exp_model tops)
exp_laws tops l = record {
  unit_own = ap (inside tops) (sym (three_zeros tops l)) ∙ zeros_inside tops;
  times_own = λ a b u v. paired_inside joined tops a b (tops_join tops) u v;
  unit_times = λ a u. ap (λ z. paired joined tops z a) (sym (three_zeros tops l)) ∙ paired_unit joined tops a (tops_join tops) u;
  times_comm = λ a b u v. paired_comm joined tops a b (tops_join tops) u v;
  times_assoc = λ a b c u v w. paired_assoc joined tops a b c (tops_join tops) u v w;
  less_irrefl = lex_irrefl;
  less_trans = lex_trans;
  less_total = lex_total;
}

-- ---- what the code of the two kinds does
pub inside_at : (ls xs : List ℕ) (i : ℕ) → i < length ls → inside ls xs ≡ true → slice_index xs i ≤ slice_index ls i
inside_at [] xs i h e = absurd (not-suc-le-zero h)
inside_at (l ∷ ls) [] i h e = absurd (false≢true e)
inside_at (l ∷ ls) (x ∷ xs) zero h e = leb-true x l (and_parts (nat_le x l) (inside ls xs) e).0
inside_at (l ∷ ls) (x ∷ xs) (suc i) h e = inside_at ls xs i (le_of_suc-le-suc h) (and_parts (nat_le x l) (inside ls xs) e).1

pub four_unions : (xs ys : List ℕ) → length xs ≡ 4 → length ys ≡ 4
    → bit_or (slice_index xs 0) (slice_index ys 0) ∷ (bit_or (slice_index xs 1) (slice_index ys 1) ∷ (bit_or (slice_index xs 2) (slice_index ys 2) ∷ (bit_or (slice_index xs 3) (slice_index ys 3) ∷ []))) ≡ paired (λ l. bit_or) full_words xs ys
four_unions xs ys lx ly = sym (ap₂ (paired (λ l. bit_or) full_words) (as_four xs lx) (as_four ys ly))

pub three_joins : (ts xs ys : List ℕ) → length ts ≡ 3 → length xs ≡ 3 → length ys ≡ 3
    → joined (slice_index ts 0) (slice_index xs 0) (slice_index ys 0) ∷ (joined (slice_index ts 1) (slice_index xs 1) (slice_index ys 1) ∷ (joined (slice_index ts 2) (slice_index xs 2) (slice_index ys 2) ∷ [])) ≡ paired joined ts xs ys
three_joins ts xs ys lt lx ly = sym (ap (λ t. paired joined t xs ys) (as_three ts lt) ∙ ap₂ (paired joined (slice_index ts 0 ∷ (slice_index ts 1 ∷ (slice_index ts 2 ∷ [])))) (as_three xs lx) (as_three ys ly))

pub inside_length : (ls xs : List ℕ) → inside ls xs ≡ true → length xs ≡ length ls
inside_length [] [] e = refl
inside_length [] (x ∷ xs) e = absurd (false≢true e)
inside_length (l ∷ ls) [] e = absurd (false≢true e)
inside_length (l ∷ ls) (x ∷ xs) e = ap suc (inside_length ls xs (and_parts (nat_le x l) (inside ls xs) e).1)

word_at : (xs : List ℕ) (i : ℕ) → length xs ≡ 4 → 0 < i → i ≤ 4 → slice_index (reverse xs) (4 - i) ≡ slice_index xs (i - 1)
word_at xs i l p h =
    let e : length xs - 1 - (4 - i) ≡ i - 1 = omega arith in
    get_or-reverse xs (4 - i) 0 (omega arith) ∙ ap (λ k. slice_index xs k) e

pub words_decide : (xs ys : List ℕ) (i : ℕ) → length xs ≡ 4 → length ys ≡ 4 → 0 < i → i ≤ 4 → take (4 - i) (reverse xs) ≡ take (4 - i) (reverse ys) → (slice_index xs (i - 1) ≢ slice_index ys (i - 1))
    → lex (reverse xs) (reverse ys) ≡ nat_lt (slice_index xs (i - 1)) (slice_index ys (i - 1))
words_decide xs ys i lx ly p h e d =
    let wx = word_at xs i lx p h in
    let wy = word_at ys i ly p h in
    lex_at (4 - i) (reverse xs) (reverse ys) (omega (arith, length-reverse xs)) (omega (arith, length-reverse ys)) e (λ q. d (sym wx ∙ q ∙ wy)) ∙ ap₂ ltb wx wy

pub words_more : (xs ys : List ℕ) (i : ℕ) → length xs ≡ 4 → length ys ≡ 4 → 0 < i → i ≤ 4 → take (4 - i) (reverse xs) ≡ take (4 - i) (reverse ys) → slice_index xs (i - 1) ≡ slice_index ys (i - 1)
    → take (4 - (i - 1)) (reverse xs) ≡ take (4 - (i - 1)) (reverse ys)
words_more xs ys i lx ly p h e d =
    let n : (4 - i) + 1 ≡ 4 - (i - 1) = omega arith in
    subst (λ k. take k (reverse xs) ≡ take k (reverse ys)) n
    (take_more_same (reverse xs) (reverse ys) (4 - i) 0 (omega (arith, length-reverse xs)) (omega (arith, length-reverse ys)) e (word_at xs i lx p h ∙ d ∙ sym (word_at ys i ly p h)))
