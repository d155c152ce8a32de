use Rattle.std.proofs.Common.{◌≡◌, ◌≤◌, min, length, Ok, Err, IfErr, sym, subst, rules, arith}
use Rattle.std.proofs.lemmas.Grind.{common_steps}
use Rattle.std.proofs.lemmas.Result.{err_from_is_err_and}
use Rattle.algebra.specs.Field.{product}
use Rattle.convert.specs.Convert.{Answered}
use Rattle.fault.specs.declared.Fault.TheVariants.{BitTableFull}
use Rattle.terms.specs.Nets.{net_model}
use Rattle.cards.specs.BitsWorking.{word_factors, BitsAnswered}
use Rattle.cards.specs.Working.{word_count}
use Rattle.cards.proofs.FormLaw.{bits_ok, bits_many, bits_err}
use Rattle.cards.proofs.Mapped.{mapped}
use Rattle.cards.proofs.bits.to_bits.Goals as goal

pub returns-in_err-terms-clause-bits : goal.returns-in_err-terms-clause-bits
returns-in_err-terms-clause-bits g c =
    let m = g.F.Field.model c.args.field.now in
    let l = g.met.F.Field.holds c.args.field.now in
    let n = c.clamp-n.result in
    let card = c.args.card.now in
    let rows = c.work.new.bits in
    let cap = min (length c.args.first.now) (length c.args.second.now) in
    let count = length c.args.bits.now in
    let words : n ≡ word_count c.args.n = omega arith in
    let few : n ≤ 3 = omega arith in
    let full = mapped (Answered net_model (product m) cap count (word_factors m n) card rows) (λ r. IfErr r (λ e. BitsAnswered m n cap count card rows (Err e))) _ (λ x a. tt)
    (λ t e p a. let q : e ≡ BitTableFull = search rules in rw q (bits_err m l n few cap count card rows t a)) c.work.result c.work.ensures.bits c.map_err.result c.map_err.ensures.cases in
    let p = err_from_is_err_and c.from_residual.result c.from_residual.ensures.1 in
    rw (p.1, p.2) (subst (λ i. BitsAnswered m i cap count card rows (Err c.in_err-terms.field-0.0)) words (rw c.in_err-terms.was at full))

pub returns-then-terms-gt-MAX_TERMS-clause-bits : goal.returns-then-terms-gt-MAX_TERMS-clause-bits
returns-then-terms-gt-MAX_TERMS-clause-bits g c =
    let m = g.F.Field.model c.args.field.now in
    let l = g.met.F.Field.holds c.args.field.now in
    let words : c.clamp-n.result ≡ word_count c.args.n = omega arith in
    let few : c.clamp-n.result ≤ 3 = omega arith in
    let was : c.work.result ≡ Ok c.in_ok-terms.terms = grind (arith, common_steps) in
    rw (sym words) (bits_many m l c.clamp-n.result few (min (length c.args.first.now) (length c.args.second.now)) (length c.args.bits.now) c.args.card.now c.work.new.bits c.in_ok-terms.terms
    c.if-terms-gt-MAX_TERMS.true (rw was at c.work.ensures.bits) c.clear_rows.new.rows (search rules))

pub returns-clause-bits : goal.returns-clause-bits
returns-clause-bits g c =
    let m = g.F.Field.model c.args.field.now in
    let l = g.met.F.Field.holds c.args.field.now in
    let words : c.clamp-n.result ≡ word_count c.args.n = omega arith in
    let few : c.clamp-n.result ≤ 3 = omega arith in
    let was : c.work.result ≡ Ok c.in_ok-terms.terms = grind (arith, common_steps) in
    rw (sym words) (bits_ok m l c.clamp-n.result few (min (length c.args.first.now) (length c.args.second.now)) (length c.args.bits.now) c.args.card.now c.work.new.bits c.in_ok-terms.terms
    c.if-terms-gt-MAX_TERMS.false (rw was at c.work.ensures.bits))
