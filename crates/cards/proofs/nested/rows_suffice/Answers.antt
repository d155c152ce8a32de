use Rattle.std.proofs.Common.{◌^◌, ◌≤◌, arith, lit<}
use native.Mathlib.Nat.{pow-le-pow_left, pow-le-pow_right}
use Rattle.cards.proofs.nested.rows_suffice.Goals as goal

pub pow-all-requires : goal.pow-all-requires
pow-all-requires c =
    let small : c.from.result ≤ 256 = omega arith in
    let a : c.from.result ^ c.args.n ≤ 256 ^ c.args.n = pow-le-pow_left small c.args.n in
    let b : 256 ^ c.args.n ≤ 256 ^ 3 = pow-le-pow_right (lit< tt) c.requires.few in
    omega (arith, a, b)
