use Rattle.std.proofs.Common.{◌≤◌, length, arith}
use Rattle.bip_graph.proofs.Mutual.{counted_all, counted_none, counted_room, counted_some}
use Rattle.bip_graph.proofs.matching.count_mates.Goals as goal
use Rattle.bip_graph.proofs.matching.count_mates.Goals.{then-row, else-row}

pub loop-row-init : goal.loop-row-init
loop-row-init c = omega arith

pub overflow_add-count : goal.overflow_add-count
overflow_add-count c = omega (arith, counted_room c.args.row_of_col.now c.loop-row.row-index c.loop-row.count c.loop-row-test.true c.if-row.true c.loop-row.invariant)

pub loop-row-preserved : goal.loop-row-preserved
loop-row-preserved c = elim c.if-row.branch [
  | then-row w ↦ omega (arith, w.count-is, c.loop-row.invariant, counted_some c.args.row_of_col.now c.loop-row.row-index c.loop-row-test.true w.if-row.true)
  | else-row w ↦ omega (arith, w.count-is, c.loop-row.invariant, counted_none c.args.row_of_col.now c.loop-row.row-index c.loop-row-test.true w.if-row.false)
]

pub returns : goal.returns
returns c =
    let end : length c.args.row_of_col.now ≤ c.loop-row.row-index = omega (arith, c.loop-row-test.false) in
    counted_all c.args.row_of_col.now c.loop-row.row-index c.loop-row.count end c.loop-row.invariant
