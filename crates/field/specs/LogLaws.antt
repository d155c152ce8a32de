-- The field modulo 285, and its product by the tables of powers and logarithms. Assumes nothing.
use Rattle.std.specs.Prelude.{◌≡◌, ℕ, ◌+◌, ◌-◌, ◌%◌, ◌<◌, ◌≢◌, nat_eq, nat_lt, slice_index, refl}
use Rattle.std.proofs.Common.{sym, ap, ◌∙◌, subst, mod-eq_of_lt, arith, eqb→eq, ltb→lt, lit<, lit≤}
use Rattle.algebra.specs.Field.{FieldLaws}
use Rattle.algebra.specs.Codes.{power}
use Rattle.algebra.specs.Shift.{shift_data}
use Rattle.algebra.specs.Poly.{along_n, along, pmul, xtime, rem, Degree, Irreducible}
use Rattle.algebra.proofs.ShiftLaws.{shift_laws}
use Rattle.algebra.proofs.Tests.{every, at, unless, irreducible_test, irreducible_by_test}
use Rattle.algebra.proofs.Logs.{LogTables, log_product, zero_product, product_zero, power_is}
use Rattle.field.specs.LogTables.{powers, logarithms}

degree_285 : Degree 8 285
degree_285 = record { low = lit≤ tt; high = lit< tt }

irreducible_285 : Irreducible 285
unfolding along_n along pmul xtime rem every unless irreducible_test
irreducible_285 = irreducible_by_test 285 (lit< tt) tt

pub log_laws : FieldLaws (shift_data 8 285)
log_laws = shift_laws 8 285 (lit≤ tt) (lit≤ tt) degree_285 irreducible_285

-- each fact on the tables is one computed test
tables : LogTables 8 285 255 powers logarithms
unfolding every xtime
tables =
    record {
      some = lit< tt;
      start = refl;
      next = λ i h. eqb→eq (slice_index powers ((i + 1) % 255)) (xtime 8 285 (slice_index powers i)) (at (λ i. nat_eq (slice_index powers ((i + 1) % 255)) (xtime 8 285 (slice_index powers i))) 255 tt i h);
      below = λ i h. ltb→lt (slice_index powers i) 256 (at (λ i. nat_lt (slice_index powers i) 256) 255 tt i h);
      log_below = λ a h. ltb→lt (slice_index logarithms a) 255 (at (λ a. nat_lt (slice_index logarithms a) 255) 256 tt a h);
      back = λ a h nz.
          let one_less : (a - 1) + 1 ≡ a = omega (arith, nz) in
          subst (λ n. slice_index powers (slice_index logarithms n) ≡ n) one_less
          (eqb→eq (slice_index powers (slice_index logarithms ((a - 1) + 1))) ((a - 1) + 1) (at (λ a. nat_eq (slice_index powers (slice_index logarithms (a + 1))) (a + 1)) 255 tt (a - 1) (omega (arith, nz, h))));
    }

two_is : ◌≡◌ {A = ℕ} 2 (xtime 8 285 1)
unfolding xtime
two_is = refl

pub table_below : (a : ℕ) → a < 256 → slice_index logarithms a < 255
table_below a h = tables.log_below a h

pub log_times : (a b : ℕ) → a < 256 → b < 256 → (a ≢ 0) → (b ≢ 0) → slice_index powers ((slice_index logarithms a + slice_index logarithms b) % 255) ≡ rem 8 285 (pmul a b)
log_times = log_product 8 285 (lit≤ tt) degree_285 255 powers logarithms tables

pub zero_times : (b : ℕ) → rem 8 285 (pmul 0 b) ≡ 0
zero_times = zero_product 8 285 (lit≤ tt) degree_285 255 powers logarithms tables

pub times_zero : (a : ℕ) → a < 256 → rem 8 285 (pmul a 0) ≡ 0
times_zero = product_zero 8 285 (lit≤ tt) degree_285 255 powers logarithms tables

pub power_table : (i : ℕ) → i < 255 → slice_index powers i ≡ power (shift_data 8 285) 2 i
power_table i h =
    ap (λ z. slice_index powers z) (sym (mod-eq_of_lt h)) ∙ power_is 8 285 (lit≤ tt) degree_285 255 powers logarithms tables (lit≤ tt) two_is i
