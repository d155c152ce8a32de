use Rattle.std.proofs.Common.{◌≡◌, ℕ, min, length, Some, sym, ap, ◌∙◌, subst, subst₂, rules}
use Rattle.algebra.specs.Field.{product}
use Rattle.convert.specs.Convert.{factors_of, Answered}
use Rattle.convert.specs.Owned.{Owned}
use Rattle.terms.specs.Exps.{exp_model, tops_for}
use Rattle.terms.specs.Sets.{holds}
use Rattle.cards.specs.Nested.{NestedAnswer}
use Rattle.cards.specs.Sums.{card_kind}
use Rattle.cards.specs.Working.{bit_factors, CardAnswered}
use Rattle.cards.proofs.Blocks.{answered_by}
use Rattle.cards.proofs.CardLaw.{answered_ok, answered_err}
use Rattle.cards.proofs.Mapped.{mapped}
use Rattle.cards.proofs.words.work.Goals as goal

pub new-conversion-requires : goal.new-conversion-requires
new-conversion-requires g c =
    let m = g.F.Field.model c.args.field.now in
    let kind : exp_model c.of_words-kind.result.tops ≡ card_kind m c.args.n = ap exp_model (c.of_words-kind.ensures ∙ ap (λ (q : ℕ). tops_for q c.args.n) c.order.ensures) in
    subst (λ k. Owned k c.bit_sums-sums.result) (sym kind) c.bit_sums-sums.ensures.own

pub returns-in_default-clause-card : goal.returns-in_default-clause-card
returns-in_default-clause-card g c =
    let m = g.F.Field.model c.args.field.now in
    let l = g.met.F.Field.holds c.args.field.now in
    let n = c.args.n in
    let b = c.bit_sums-sums.ensures in
    let parts = c.new-conversion.ensures in
    let bits = c.args.bits.now in
    let rows = c.convert.new.res in
    let cap = min (length c.args.first.now) (length c.args.second.now) in
    let count = length c.args.card.now in
    let kind : exp_model c.of_words-kind.result.tops ≡ card_kind m n = ap exp_model (c.of_words-kind.ensures ∙ ap (λ (q : ℕ). tops_for q n) c.order.ensures) in
    let worked =
    subst₂ (λ r f. Answered (exp_model r.kind.now.tops) (product (g.F.Field.model r.field.now)) cap count (λ s. factors_of f (holds s)) bits rows c.convert.result) parts.ring parts.factors
    (rw (sym c.answer.auto.card) c.convert.ensures.worked) in
    mapped (Answered (card_kind m n) (product m) cap count (bit_factors m n b.dual) bits rows) (CardAnswered m n cap count bits rows) _
    (answered_ok m l n c.requires b.dual b.duals cap count bits rows)
    (λ t e p. answered_err m l n c.requires b.dual b.duals cap count bits rows t e (search rules)) c.convert.result
    (answered_by m l n c.bit_sums-sums.result c.requires b _ c.width-width.result cap count bits rows c.convert.result kind c.width-width.ensures worked) c.map_err.result c.map_err.ensures.cases

pub returns-clause-card : goal.returns-clause-card
returns-clause-card g c =
    let m = g.F.Field.model c.args.field.now in
    let l = g.met.F.Field.holds c.args.field.now in
    let n = c.args.n in
    let b = c.bit_sums-sums.ensures in
    let bits = c.args.bits.now in
    let rows = c.answer.new.card in
    let count = length c.args.card.now in
    let x = subst (λ r. NestedAnswer (g.F.Field.model r.field.now) n c.min-cap.result count bits rows (Some c.in-Some.terms)) c.new-conversion.ensures.ring c.in-Some.ensures in
    rw (sym c.min-cap.ensures) (answered_ok m l n c.requires b.dual b.duals c.min-cap.result count bits rows c.in-Some.terms (x.0 b.dual b.duals, x.1))
