use Rattle.std.proofs.Common.{ℕ, ◌<◌, ap, subst}
use Rattle.terms.specs.Exps.{exp_model}
use Rattle.terms.specs.Sets.{Within}
use Rattle.terms.specs.Terms.{Codes, Monos}
use Rattle.cards.specs.Law.{BitTerms}
use Rattle.cards.proofs.Ending.{nested_answer}
use Rattle.cards.proofs.nested.Nested.answer.Goals as goal

pub card-requires : goal.card-requires
card-requires g c = subst (λ (q : ℕ). Codes (λ x. x < q) c.args.bits.now) c.order-order.ensures (c.if-not-in_words.ensures.codes tt)

pub returns : goal.returns
returns g c =
    let self = c.args.self.now in
    let ring = self.conversion.ring in
    let m = g.F.Field.model ring.field.now in
    let l = g.met.F.Field.holds ring.field.now in
    let bits = c.args.bits.now in
    let terms : BitTerms m self.words bits = record {
      codes = subst (λ (q : ℕ). Codes (λ x. x < q) bits) c.order-order.ensures (c.if-not-in_words.ensures.codes tt);
      within = subst (λ (p : ℕ). Monos (Within p) bits) self.places (c.if-not-in_words.ensures.nets tt);
    } in
    rw c.ok.ensures.value (nested_answer m l self.words self.few c.args.cap _ bits terms (c.if-not-certain.ensures tt) (exp_model ring.kind.now.tops) (ap exp_model self.tops) self.conversion.factors.places self.places c.card.new.card c.card.result c.card.ensures)
