use Rattle.std.proofs.Common.{◌+◌, arith}
use Rattle.blocktri.proofs.LookLemmas.{start_inside}
use Rattle.blocktri.proofs.RisingLemmas.{rising_column_more}
use Rattle.blocktri.proofs.rising_columns.are_rising.Goals as goal

pub is_rising-requires-clause-to : goal.is_rising-requires-clause-to
is_rising-requires-clause-to g c =
    let lt = c.loop-col-test.true in
    let len = c.len-col-end.ensures in
    let within = start_inside (g.N.NumberList.numbers c.args.starts) (g.N.NumberList.numbers c.args.ids) c.requires.starts (c.loop-col.col + 1) (omega (arith, lt, len)) in
    rw c.at-to.ensures within

pub loop-col-preserved : goal.loop-col-preserved
loop-col-preserved g c = rising_column_more (g.N.NumberList.numbers c.args.starts) (g.N.NumberList.numbers c.args.ids) c.loop-col.col c.loop-col.invariant (rw (c.at-from.ensures, c.at-to.ensures) at (c.is_rising.ensures c.if-not-is_rising.false))

pub returns : goal.returns
returns g c = λ _ d lt.
    let f = c.loop-col-test.false in
    let len = c.len-col-end.ensures in
    c.loop-col.invariant d (omega (arith, f, len, lt))
