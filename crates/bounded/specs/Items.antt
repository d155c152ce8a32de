-- the items of a list of bounded length
use Rattle.std.specs.Prelude.{ℕ, List, take}
use Rattle.bounded.specs.declared.Bounded.{Bounded}

abbrev pub items : {T : Type 0} {N : ℕ} → Bounded T N → List T
items b = take b.len b.places
