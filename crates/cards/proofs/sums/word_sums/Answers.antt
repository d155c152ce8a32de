use Rattle.std.proofs.Common.{◌≡◌, ℕ, ◌+◌, ◌*◌, ◌/◌, ◌%◌, ◌<◌, true, [], slice_index, slice_index_or, sym, refl, ap, ◌∙◌, subst, mod-lt, arith, rules}
use Rattle.terms.specs.Nets.{net_model}
use Rattle.terms.specs.Terms.{term}
use Rattle.terms.specs.declared.Term.{Term}
use Rattle.terms.specs.declared.nets.NetSet.{NetSet}
use Rattle.cards.specs.Sums.{single_net, word_sums_term}
use Rattle.cards.proofs.Blocks.{monos_filled, net_own, net_below, word_below, few_terms}
use Rattle.cards.proofs.sums.word_sums.Goals as goal

pub returns : goal.returns
returns g c =
    let m = g.F.Field.model c.args.field.now in
    let laws = g.met.F.Field.holds c.args.field.now in
    let n = c.args.n in
    let w = m.width in
    let sums = c.sums_by.result in
    let few = few_terms n w c.requires laws.wide in
    let Made = λ (k : ℕ). (t : ℕ) → t < 192 → t < n * k * k → (x : Term NetSet) → slice_index_or sums t x ≡ term (slice_index (slice_index_or c.bit_squares-powers.result (t % k) []) (t / k % k)) (single_net (t / k / k * k + t % k)) in
    let made : Made w = subst Made c.width.ensures (λ t h l x. let said = c.sums_by.ensures.made t h l x in search rules) in
    let wp : 0 < w = omega (arith, laws.narrow) in
    let terms : (t : ℕ) → t < n * w * w → (x : Term NetSet) → slice_index_or sums t x ≡ word_sums_term m t =
    λ t h x.
    let j : t / w % w < w = mod-lt (t / w) wp in
    made t (omega arith) h x ∙ ap (λ (z : ℕ). term z (single_net (t / w / w * w + t % w))) (c.bit_squares-powers.ensures (t % w) (t / w % w) (mod-lt t wp) (omega (arith, laws.wide))) in
    record {
      count = search rules;
      terms = terms;
      own = monos_filled (λ s. net_model.own s ≡ true) (n * w * w) sums _ (subst (λ s. net_model.own s ≡ true) (sym c.unit.ensures) refl)
          (λ t h x. subst (λ (y : Term NetSet). net_model.own y.mono ≡ true) (sym (terms t h x)) (net_own (t / w / w * w + t % w) (net_below (t / w / w) w (t % w) (let b = word_below n w t wp h in omega (arith, c.requires)) laws.wide (mod-lt t wp))))
          (λ t l h x. c.sums_by.ensures.rest t (search rules) (rw c.width.ensures h) x);
    }
