-- The test of lists of terms tells just the forms. Assumes nothing.
use Rattle.std.proofs.Common.{◌≡◌, true, ◌&&◌, ltb, List, [], ◌∷◌, refl}
use Rattle.std.proofs.lemmas.Bool.{lt-ltb, ltb-true, and_parts, and_from}
use Rattle.terms.specs.Forms.{Form}
use Rattle.terms.specs.Nets.{net_model}
use Rattle.terms.specs.Terms.{Under}
use Rattle.terms.specs.declared.Term.{Term}
use Rattle.terms.specs.declared.nets.NetSet.{NetSet}
use Rattle.shelf.specs.Formed.{all_below, formed}

below_under : (s : NetSet) (ts : List (Term NetSet)) → all_below s ts ≡ true → Under net_model s ts
below_under s [] e = tt
below_under s (t ∷ ts) e = let b = and_parts (net_model.less t.mono s) (all_below s ts) e in (b.0, below_under s ts b.1)

under_below : (s : NetSet) (ts : List (Term NetSet)) → Under net_model s ts → all_below s ts ≡ true
under_below s [] u = refl
under_below s (t ∷ ts) u = and_from (net_model.less t.mono s) (all_below s ts) u.0 (under_below s ts u.1)

pub formed_form : (ts : List (Term NetSet)) → formed ts ≡ true → Form ts
formed_form [] e = record { own = tt; falling = tt; nonzero = tt }
formed_form (t ∷ ts) e =
    let b = and_parts (ltb 0 t.code && net_model.own t.mono) (all_below t.mono ts && formed ts) e in
    let c = and_parts (ltb 0 t.code) (net_model.own t.mono) b.0 in
    let d = and_parts (all_below t.mono ts) (formed ts) b.1 in
    let r = formed_form ts d.1 in
    record { own = (c.1, r.own); falling = (below_under t.mono ts d.0, r.falling); nonzero = (ltb-true 0 t.code c.0, r.nonzero) }

pub form_formed : (ts : List (Term NetSet)) → Form ts → formed ts ≡ true
form_formed [] f = refl
form_formed (t ∷ ts) f =
    and_from (ltb 0 t.code && net_model.own t.mono) (all_below t.mono ts && formed ts)
    (and_from (ltb 0 t.code) (net_model.own t.mono) (lt-ltb 0 t.code f.nonzero.0) f.own.0)
    (and_from (all_below t.mono ts) (formed ts) (under_below t.mono ts f.falling.0) (form_formed ts (record { own = f.own.1; falling = f.falling.1; nonzero = f.nonzero.1 })))
