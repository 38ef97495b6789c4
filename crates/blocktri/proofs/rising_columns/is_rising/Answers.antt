use Rattle.std.proofs.Common.{arith}
use Rattle.blocktri.proofs.RisingLemmas.{rising_more, rising_none}
use Rattle.blocktri.proofs.rising_columns.is_rising.Goals as goal

pub loop-at-init : goal.loop-at-init
loop-at-init g c = rising_none (g.N.NumberList.numbers c.args.ids) c.args.from

pub loop-at-preserved : goal.loop-at-preserved
loop-at-preserved g c =
    let lt = c.loop-at-test.true in
    let within = c.requires.to in
    let below = c.if-id-next.false in
    rising_more (g.N.NumberList.numbers c.args.ids) c.args.from c.loop-at.at c.loop-at.next c.at-id.result (omega (arith, lt, within)) c.at-id.ensures (omega (arith, below)) c.loop-at.invariant
