use Rattle.std.proofs.Common.{refl, ap, ◌∙◌, rules}
use Rattle.std.specs.Option.{option_or}
use Rattle.audit.proofs.Running.{run_more, run_none}
use Rattle.audit.proofs.runs.run_all.Goals as goal

pub loop-i-init : goal.loop-i-init
loop-i-init g c = record { runs = run_none _ _ _; words = refl; same = search rules }

pub loop-i-preserved : goal.loop-i-preserved
loop-i-preserved g c =
    let l = c.loop-i.invariant in
    let s = c.step-fault.ensures in
    record {
      runs = run_more g.F.Field.model _ _ _ _ c.args.entries.now c.loop-i.i _ _ _ _ _ _ _ l.words l.same c.loop-i-test.true s.steps (c.or-found.ensures ∙ ap (option_or _) c.zip.ensures) l.runs;
      words = s.words ∙ l.words;
      same = search rules;
    }
