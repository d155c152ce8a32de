use Rattle.std.proofs.Common.{◌∙◌, add-one, rules}
use Rattle.std.proofs.lemmas.List.Edits.{fill_by_more}
use Rattle.algebra.proofs.Squares.{next_power}
use Rattle.cards.proofs.sums.squares.Goals as goal

pub loop-square-preserved : goal.loop-square-preserved
loop-square-preserved g c = λ h.
    let m = g.F.Field.model c.args.field.now in
    let v = c.loop-square.invariant h in (
      rw add-one (c.mul-y.ensures ∙ next_power m (g.met.F.Field.holds c.args.field.now) c.args.x c.loop-square.square-index c.loop-square.y h v.0),
      search (rules, fill_by_more),
    )
