use Rattle.std.proofs.Common.{◌≡◌, ◌/◌, ◌^◌}
use Rattle.algebra.specs.Poly.{along, xtime}
use Rattle.field.proofs.poly.Modulus.product.Given as goal

abbrev pub invariant-loop-i : goal.invariant-loop-i
invariant-loop-i l = l.y ≡ along (xtime l.self.k l.self.p) l.a (l.b / 2 ^ l.i)
