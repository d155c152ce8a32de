use Rattle.std.proofs.Common.{◌*◌, ◌+◌, ◌%◌, ◌^◌, drop, arith}
use Rattle.std.proofs.lemmas.Grind.{common_steps}
use Rattle.terms.specs.Lent.{live, capacity}
use Rattle.terms.specs.Nets.{net_model}
use Rattle.terms.proofs.Additions.{table_on, table_full}
use Rattle.netlist.specs.Netlists.{circuit}
use Rattle.netlist.proofs.Formed.{formed}
use Rattle.gates.proofs.Outs.{outs_more, outs_long}
use Rattle.gates.proofs.work.add_outs.Goals as goal

pub returns-in_err-add-clause-sum : goal.returns-in_err-add-clause-sum
returns-in_err-add-clause-sum c = λ outs o.
    let cap = capacity c.args.table.now in
    let t = c.loop-i.table in
    let i = c.loop-i.i in
    let e = outs_more (circuit c.args.net.now) (formed c.args.net.now) cap i c.output-out.result.0 c.of_net.result outs (live t) o (omega arith) c.output-out.ensures.net c.of_net.ensures in
    let f = table_full net_model cap ((1 * 2 ^ i) % 2 ^ 16) c.of_net.result (drop (i + 1) outs) t c.add.new.self c.loop-i.invariant.0.room c.in_err-add.ensures.sum in
    grind (arith, c.loop-i.invariant.1 outs o)

pub loop-i-preserved : goal.loop-i-preserved
loop-i-preserved c = (
  grind (arith, common_steps),
  λ outs o.
      let cap = capacity c.args.table.now in
      let t = c.loop-i.table in
      let i = c.loop-i.i in
      let e = outs_more (circuit c.args.net.now) (formed c.args.net.now) cap i c.output-out.result.0 c.of_net.result outs (live t) o (omega arith) c.output-out.ensures.net c.of_net.ensures in
      let f = table_on net_model cap ((1 * 2 ^ i) % 2 ^ 16) c.of_net.result (drop (i + 1) outs) t c.add.new.self c.loop-i.invariant.0.room c.in_ok-add.ensures.sum in
      grind (arith, c.loop-i.invariant.1 outs o),
)

pub returns-clause-sum : goal.returns-clause-sum
returns-clause-sum c = λ outs o. grind (arith, common_steps, c.loop-i.invariant.1 outs o, outs_long, formed c.args.net.now)
