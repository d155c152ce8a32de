use Rattle.std.proofs.Common.{slice_index}
use Rattle.cards.proofs.sums.dual_squares.Goals as goal

pub returns : goal.returns
returns g c =
    record {
      dual = slice_index c.duals.result;
      duals = c.duals.ensures.bits;
      powers = λ i j h k. c.rows_of_squares.ensures i h (c.duals.ensures.bits i h).code j k;
    }
