use Rattle.std.proofs.Common.{◌≡◌, ℕ, ◌+◌, ◌-◌, ◌*◌, ◌<◌, ◌≤◌, [], length, take, ap, arith}
use Rattle.std.proofs.lemmas.Bool.Decides.{nat_tests}
use Rattle.algebra.specs.Field.{size}
use Rattle.convert.proofs.Steps.{block_owned}
use Rattle.terms.specs.Exps.{exp_model}
use Rattle.terms.specs.Lent.{live, capacity, Sound}
use Rattle.cards.specs.Nested.{Gained}
use Rattle.cards.proofs.Gains.{codes_front, codes_back, gained_none, gained_then, gained_product}
use Rattle.cards.proofs.nested.Nested.+nested.Goals.{add_nested-then-not-is_empty+in_ok-add_held, add_nested-else-not-is_empty}
use Rattle.cards.proofs.nested.Nested.+nested.Goals as goal

pub add_held-multiply-requires-clause-owned : goal.add_held-multiply-requires-clause-owned
add_held-multiply-requires-clause-owned g t c =
    let conversion = c.args.self.now.conversion in
    rw c.at-factor.ensures (block_owned (exp_model conversion.ring.kind.now.tops) conversion.factors _ conversion.owned)

pub add_held-returns-clause-sum : goal.add_held-returns-clause-sum
add_held-returns-clause-sum g t c =
    let self = c.args.self.now in
    let ring = self.conversion.ring in
    let m = g.F.Field.model ring.field.now in
    let l = g.met.F.Field.holds ring.field.now in
    let k = exp_model ring.kind.now.tops in
    let empty : live c.new-inner.result ≡ [] = ap (λ (i : ℕ). take i c.new-inner.result.rows.now) c.new-inner.ensures.len in
    gained_product m l k self.words self.few (ap exp_model self.tops) self.conversion.factors self.width self.places self.sums c.args.net c.requires.place (capacity c.args.out.now) c.args.bits.now c.requires.held
    (live c.new-inner.result) (live c.add_nested.new.out) (live c.args.out.now) (live c.multiply.new.out) c.at-factor.result.now empty c.in_ok-add_nested.ensures.sum c.requires.out.own c.at-factor.ensures c.multiply.result c.multiply.ensures.sum

pub add_nested-add_held-requires : goal.add_nested-add_held-requires
add_nested-add_held-requires g t c κs within =
    let m = g.F.Field.model c.args.self.now.conversion.ring.field.now in
    let parts = rw c.in_ok-with.ensures.ok_part at c.by_net.ensures in
    let less : 2 * (c.args.p - 1) + 1 < t = omega arith in
    let place : c.args.p - 1 < c.args.self.now.conversion.factors.places = omega (arith, c.requires.place) in
    let codes = codes_front (λ x. x < size m) c.in_ok-with.with.now c.in_ok-with.without.now (rw parts.whole at c.requires.codes) in
    (less, (within, (place, (parts.held, (codes, c.requires.out)))))

pub add_nested-add_nested-requires : goal.add_nested-add_nested-requires
add_nested-add_nested-requires g t c κs within =
    let m = g.F.Field.model c.args.self.now.conversion.ring.field.now in
    let k = exp_model c.args.self.now.conversion.ring.kind.now.tops in
    let net = c.args.p - 1 in
    let cs = c.in_ok-with.with.now in
    let ts = live c.args.out.now in
    let parts = rw c.in_ok-with.ensures.ok_part at c.by_net.ensures in
    let first : Sound k c.if-not-is_empty.out × Gained m k (net + 1) cs ts (live c.if-not-is_empty.out) = elim c.if-not-is_empty.branch [
      | add_nested-then-not-is_empty+in_ok-add_held w ↦ rw w.out-is (w.in_ok-add_held.ensures.out.table, w.in_ok-add_held.ensures.sum)
      | add_nested-else-not-is_empty w ↦
          let none : length cs ≡ 0 = grind (arith, nat_tests, w.if-not-is_empty.ensures) in
          rw w.out-is (c.requires.out.table, gained_none m k (net + 1) cs none ts c.requires.out.own)
    ] in
    let less : 2 * net < t = omega arith in
    let place : net ≤ c.args.self.now.conversion.factors.places = omega (arith, c.requires.place) in
    let codes = codes_back (λ x. x < size m) cs c.in_ok-with.without.now (rw parts.whole at c.requires.codes) in
    (less, (within, (place, (codes, record { table = first.0; own = first.1.own }))))

pub add_nested-returns-clause-sum : goal.add_nested-returns-clause-sum
add_nested-returns-clause-sum g t c =
    let m = g.F.Field.model c.args.self.now.conversion.ring.field.now in
    let k = exp_model c.args.self.now.conversion.ring.kind.now.tops in
    let net = c.args.p - 1 in
    let cs = c.in_ok-with.with.now in
    let ts = live c.args.out.now in
    let parts = rw c.in_ok-with.ensures.ok_part at c.by_net.ensures in
    let first : Sound k c.if-not-is_empty.out × Gained m k (net + 1) cs ts (live c.if-not-is_empty.out) = elim c.if-not-is_empty.branch [
      | add_nested-then-not-is_empty+in_ok-add_held w ↦ rw w.out-is (w.in_ok-add_held.ensures.out.table, w.in_ok-add_held.ensures.sum)
      | add_nested-else-not-is_empty w ↦
          let none : length cs ≡ 0 = grind (arith, nat_tests, w.if-not-is_empty.ensures) in
          rw w.out-is (c.requires.out.table, gained_none m k (net + 1) cs none ts c.requires.out.own)
    ] in
    let up : net + 1 ≡ c.args.p = omega arith in
    gained_then m k net c.args.p up c.args.bits.now cs c.in_ok-with.without.now parts ts (live c.if-not-is_empty.out) (live c.add_nested.new.out) first.1 c.add_nested.result c.add_nested.ensures.sum
