use Rattle.std.proofs.Common.{◌<◌, length, sym, ◌∙◌, arith, length-set, rules}
use Rattle.std.specs.Iterator.Adapters.{zip_first}
use Rattle.field.proofs.Lists.{set_cases, zeros, next_of}
use Rattle.field.proofs.shift.logs.logs_of.Goals as goal

pub loop-i-init : goal.loop-i-init
loop-i-init c = (search rules, search rules, search rules, λ a. omega (arith, zeros 256 a))

pub loop-i-preserved : goal.loop-i-preserved
loop-i-preserved c =
    let inv = c.loop-i.invariant in
    let s = c.in-Some.ensures.steps in
    let n = (zip_first c.loop-i.i-iterator).start in
    let small : n < 256 = omega (arith, s, inv.0, c.requires.small) in
    let next = next_of c.args.powers.now n _ _ _ (omega arith) (sym inv.1 ∙ s.1) s.0.1.2 in
    let at : c.from.result < length c.loop-i.logs = omega (arith, next.0, inv.2, c.requires.codes n (omega arith)) in
    (s.0.0 ∙ inv.0, next.1, simp length-set inv.2, λ a. set_cases (λ v. v < 256) c.loop-i.logs c.from.result c.in-Some.i a at (λ e. omega (arith, s)) (inv.3 a))
