use Rattle.std.proofs.Common.{◌≡◌, ℕ, ◌*◌, ◌/◌, ◌%◌, ◌^◌, ◌<◌, true, List, [], slice_index, slice_index_or, sym, refl, ap, ap₂, ◌∙◌, subst, mod-lt, arith, rules}
use Rattle.algebra.specs.Field.{size}
use Rattle.algebra.specs.Ops.{at_row}
use Rattle.terms.specs.BothKinds.{exp_laws}
use Rattle.terms.specs.Exps.{tops_for}
use Rattle.terms.specs.Terms.{term}
use Rattle.terms.specs.declared.Term.{Term}
use Rattle.cards.specs.Sums.{card_kind, sums_term}
use Rattle.cards.proofs.Blocks.{monos_filled, one_bit, row_own, word_below, few_terms}
use Rattle.cards.proofs.sums.bit_sums.Goals as goal

pub returns : goal.returns
returns g c =
    let m = g.F.Field.model c.args.field.now in
    let laws = g.met.F.Field.holds c.args.field.now in
    let n = c.args.n in
    let w = m.width in
    let sums = c.sums_by.result in
    let ds = c.dual_squares-powers.ensures in
    let few = few_terms n w c.requires laws.wide in
    let Made = λ (k : ℕ). (t : ℕ) → t < 192 → t < n * k * k → (x : Term (List ℕ)) → slice_index_or sums t x ≡ term (slice_index (slice_index_or c.dual_squares-powers.result (t / k % k) []) (t % k)) (at_row 3 (t / k / k) (1 * 2 ^ (t % k) % 65536)) in
    let made : Made w = subst Made c.width.ensures (λ t h l x. let said = c.sums_by.ensures.made t h l x in search rules) in
    let wp : 0 < w = omega (arith, laws.narrow) in
    let terms : (t : ℕ) → t < n * w * w → (x : Term (List ℕ)) → slice_index_or sums t x ≡ sums_term m ds.dual t =
    λ t h x.
    let j : t % w < w = mod-lt t wp in
    let is = ap₂ term (ds.powers (t / w % w) (t % w) (mod-lt (t / w) wp) (omega (arith, laws.wide))) (ap (at_row 3 (t / w / w)) (one_bit (t % w) (omega (arith, laws.wide)))) in
    made t (omega arith) h x ∙ is in
    record {
      dual = ds.dual;
      duals = ds.duals;
      count = search rules;
      terms = terms;
      own = monos_filled (λ r. (card_kind m n).own r ≡ true) (n * w * w) sums _ (exp_laws (tops_for (size m) n) refl).unit_own
          (λ t h x. subst (λ (y : Term (List ℕ)). (card_kind m n).own y.mono ≡ true) (sym (terms t h x)) (row_own m n (t / w / w) (t % w) (word_below n w t wp h) c.requires (mod-lt t wp)))
          (λ t l h x. c.sums_by.ensures.rest t (search rules) (rw c.width.ensures h) x);
    }
