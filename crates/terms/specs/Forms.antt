-- Forms: terms of net sets, each set once, in falling order, with nonzero codes. Assumes nothing.
use Rattle.std.specs.Prelude.{List}
use Rattle.terms.specs.Nets.{net_model}
use Rattle.terms.specs.Sets.{Own}
use Rattle.terms.specs.Terms.{Monos, Falling, Nonzero}
use Rattle.terms.specs.declared.Term.{Term}
use Rattle.terms.specs.declared.nets.NetSet.{NetSet}

-- terms of sets in falling order, with nonzero codes
pub record Form (ts : List (Term NetSet)) : Type 0 where
  pub own : Monos Own ts
  pub falling : Falling net_model ts
  pub nonzero : Nonzero ts
