use Rattle.std.proofs.Common.{subst, arith}
use Rattle.bip_defs.proofs.Sets.{col_among}
use Rattle.filled_columns.proofs.Completion.{IsUnderWay, completes, full, none_has, none_left, paired, past, some_has}
use Rattle.filled_columns.proofs.complete.completed.Goals as goal
use Rattle.filled_columns.proofs.complete.completed.Goals.{then-is_none+in-Some, then-is_none+in_default, else-is_none}

pub loop-col-preserved : goal.loop-col-preserved
loop-col-preserved c = elim c.if-is_none.branch [
  | then-is_none+in-Some w ↦ rw (w.full-is, w.from-is, w.row.view_is) (paired c.args.matching c.loop-col.full w.pair.new.self c.loop-col.from w.in-Some.row c.loop-col.col c.loop-col.invariant w.in-Some.ensures.found (none_has c.row_of.result c.row_of.ensures.none w.if-is_none.ensures) w.pair.ensures.sizes.0 w.pair.ensures.sizes.1 w.pair.ensures.added w.pair.ensures.pairing)
  | then-is_none+in_default w ↦ absurd (none_left c.args.matching c.loop-col.full c.loop-col.from c.loop-col.col c.loop-col.invariant c.requires.square w.in_default.ensures.none (none_has c.row_of.result c.row_of.ensures.none w.if-is_none.ensures) (omega (arith, c.loop-col-test.true, c.cols-col-end.ensures.count, c.loop-col.invariant.cols_same)))
  | else-is_none w ↦ rw (w.full-is, w.from-is) (past c.args.matching c.loop-col.full c.loop-col.from c.loop-col.col c.loop-col.invariant (let (r, h) = some_has c.row_of.result c.row_of.ensures.found w.if-is_none.ensures in col_among r c.loop-col.col c.loop-col.full.pairs h))
]

pub returns-clause-full : goal.returns-clause-full
returns-clause-full c a rows columns = full c.args.matching c.loop-col.full c.loop-col.from c.requires.square (subst (λ n. IsUnderWay c.args.matching c.loop-col.full c.loop-col.from n) (omega (arith, c.loop-col-test.false, c.loop-col.auto.col-end, c.cols-col-end.ensures.count, c.loop-col.invariant.cols_same)) c.loop-col.invariant) a rows columns

pub returns-clause-completes : goal.returns-clause-completes
returns-clause-completes c a max = completes c.args.matching c.loop-col.full c.loop-col.from c.requires.square (subst (λ n. IsUnderWay c.args.matching c.loop-col.full c.loop-col.from n) (omega (arith, c.loop-col-test.false, c.loop-col.auto.col-end, c.cols-col-end.ensures.count, c.loop-col.invariant.cols_same)) c.loop-col.invariant) a max.matching.rows max.matching.cols max
