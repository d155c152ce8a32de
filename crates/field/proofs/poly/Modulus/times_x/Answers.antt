use Rattle.std.proofs.Common.{suc, ◌*◌, ◌^◌, ◌<◌, sym, pow-suc, arith, pow_mono}
use Rattle.algebra.proofs.Reduce.{xtime_low, xtime_high}
use Rattle.field.proofs.poly.Modulus.times_x.Goals as goal

pub returns-then-z-self : goal.returns-then-z-self
returns-then-z-self c =
    let m = c.args.self in
    let high : 2 * c.args.y < 2 ^ suc m.k = omega (arith, pow-suc 2 m.k, c.requires) in
    sym (xtime_high m.k m.p c.args.y (omega (arith, pow_mono {i = m.k} {j = 8} m.few)) high)

pub returns-else-z-self : goal.returns-else-z-self
returns-else-z-self c = let m = c.args.self in sym (xtime_low m.k m.p c.args.y (omega (arith, pow_mono {i = m.k} {j = 8} m.few)))
