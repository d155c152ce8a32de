use Rattle.std.proofs.Common.{ℕ, List, [], get_or, ap, ◌∙◌, rules}
use Rattle.terms.specs.Exps.{exp_model}
use Rattle.terms.specs.Lent.{live}
use Rattle.terms.specs.Terms.{added}
use Rattle.terms.specs.declared.Term.{Term}
use Rattle.terms.specs.declared.nets.NetSet.{NetSet}
use Rattle.cards.proofs.Gains.{gained_code}
use Rattle.cards.proofs.nested.Nested.add_codes.Goals as goal

-- what a read past the end would give
abbrev no-term : Term NetSet
no-term = record { code = 0; mono = record { words = [] } }

pub loop-t-preserved : goal.loop-t-preserved
loop-t-preserved g c =
    let self = c.args.self.now in
    let ring = self.conversion.ring in
    let m = g.F.Field.model ring.field.now in
    let l = g.met.F.Field.holds ring.field.now in
    let k = exp_model ring.kind.now.tops in
    let bits = c.args.bits.now in
    let i = c.loop-t.t-index in (
      search rules,
      gained_code m l k self.words (ap exp_model self.tops) bits i no-term c.loop-t-test.true c.requires.codes (live c.args.out.now) (live c.loop-t.out) (live c.add.new.self) c.loop-t.invariant.1
          (c.in_ok-add.ensures.sum.terms ∙ ap (λ (r : List ℕ). added k (get_or bits i no-term).code r (live c.loop-t.out)) c.unit.ensures),
    )
