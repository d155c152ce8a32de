use Rattle.std.proofs.Common.{length, take}
use Rattle.std.specs.Fmt.{IsPlainFormatter, HasWritten}
use Rattle.job.specs.Printing.{spaced}
use Rattle.job.proofs.card.show.RowDisplay.fmt.Given as goal

abbrev pub invariant-loop-exponent : goal.invariant-loop-exponent
invariant-loop-exponent g l = IsPlainFormatter l.initial.f → HasWritten g.W.Write.write_str_gives l.initial.f (spaced (take (length l.yielded) (take l.self.words l.self.term.mono))) l.f
