use Rattle.std.proofs.Common.{◌≡◌, ◌/◌, ◌%◌, ◌^◌, ◌==◌, ap, ◌∙◌, rules}
use Rattle.std.proofs.iter.runs.Made.{chains}
use Rattle.forms.proofs.Packed.{packed, packed_bits}
use Rattle.forms.proofs.inputs.WordBits.pack.Goals as goal

pub returns : goal.returns
returns c =
    let e : c.fold.result ≡ packed c.args.self.count c.args.words = search (rules, chains) in
    λ g. ap (λ x. x / 2 ^ g % 2 == 1) e ∙ packed_bits c.args.self.count c.args.words c.args.self.possible (search rules) g
