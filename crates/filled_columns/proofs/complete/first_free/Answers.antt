use Rattle.std.proofs.Common.{arith}
use Rattle.bip_defs.proofs.Sets.{row_among}
use Rattle.filled_columns.proofs.Completion.{some_has, taken_more, taken_wide}
use Rattle.filled_columns.proofs.complete.first_free.Goals as goal

pub loop-row-preserved : goal.loop-row-preserved
loop-row-preserved c =
    let (d, h) = some_has c.col_of.result c.col_of.ensures.found c.if-is_none.ensures in
    taken_more c.args.matching.now c.args.from c.loop-row.row c.loop-row.invariant (row_among c.loop-row.row d c.args.matching.now.pairs h)

pub returns-clause-none : goal.returns-clause-none
returns-clause-none c = taken_wide c.args.matching.now c.args.from c.loop-row.row c.args.matching.now.rows c.loop-row.invariant (omega (arith, c.loop-row-test.false, c.rows-row-end.ensures.count))
