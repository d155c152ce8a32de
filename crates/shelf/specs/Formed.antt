-- A test of lists of terms: nonzero codes, sets of 256 nets, in falling order. Assumes nothing.
use Rattle.std.specs.Prelude.{Bool, true, ◌&&◌, List, [], ◌∷◌, nat_lt}
use Rattle.terms.specs.Nets.{net_model}
use Rattle.terms.specs.declared.Term.{Term}
use Rattle.terms.specs.declared.nets.NetSet.{NetSet}

-- every set of ts is below s
abbrev pub all_below : NetSet → List (Term NetSet) → Bool
all_below s [] = true
all_below s (t ∷ ts) = net_model.less t.mono s && all_below s ts

-- each code is not 0, each set is one of 256 nets, and each stands above all behind it
abbrev pub formed : List (Term NetSet) → Bool
formed [] = true
formed (t ∷ ts) = (nat_lt 0 t.code && net_model.own t.mono) && (all_below t.mono ts && formed ts)
