use Rattle.std.proofs.Common.{arith, pow_mono}
use Rattle.field.specs.Logged.{code}
use Rattle.field.proofs.Logging.{raised_below}
use Rattle.field.proofs.shift.Tables.by.Goals as goal

pub logs_of-logs-requires-clause-codes : goal.logs_of-logs-requires-clause-codes
logs_of-logs-requires-clause-codes c = λ i h.
    let m = c.args.m in
    omega (arith, c.powers_of-powers.ensures i h, raised_below m.k m.p m.some m.degree (code c.args.base) i, pow_mono {i = m.k} {j = 8} m.few)
