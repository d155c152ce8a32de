use Rattle.std.proofs.Common.{ℕ, ◌^◌, ◌<◌, sym, subst}
use Rattle.field.specs.Logged.{code}
use Rattle.field.proofs.Logging.{raised_below}
use Rattle.field.proofs.shift.logs.powers_of.Goals as goal

pub times-y-requires : goal.times-y-requires
times-y-requires c =
    let m = c.args.m in
    subst (λ (y : ℕ). y < 2 ^ m.k) (sym c.loop-power.invariant.1) (raised_below m.k m.p m.some m.degree (code c.args.base) c.loop-power.power-index)
