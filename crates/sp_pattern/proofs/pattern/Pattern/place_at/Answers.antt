use Rattle.std.proofs.Common.{arith}
use Rattle.sp_pattern.proofs.Weighed.{at_place}
use Rattle.sp_pattern.proofs.pattern.Pattern.place_at.Goals as goal

pub returns-then-at-to-clause-entry : goal.returns-then-at-to-clause-entry
returns-then-at-to-clause-entry c =
    let from = c.span-from.ensures.from in
    let to = c.span-from.ensures.to in
    let before = c.if-at-to.true in
    let read = rw from at c.index-rows_of-at.is in
    let here = at_place c.args.self.now c.loop-col.col c.args.at c.index-rows_of-at.result c.rows_of.result.now c.span-from.ensures.rising c.rows_of.ensures.column (let n = c.cols-col-end.ensures in let t = c.loop-col-test.true in omega (arith, n, t)) c.loop-col.invariant (omega (arith, to, before)) read in
    c.rows_of.ensures.rows.sound c.index-rows_of-at.result here.0

pub returns-then-at-to-clause-place : goal.returns-then-at-to-clause-place
returns-then-at-to-clause-place c =
    let from = c.span-from.ensures.from in
    let to = c.span-from.ensures.to in
    let before = c.if-at-to.true in
    let read = rw from at c.index-rows_of-at.is in
    (at_place c.args.self.now c.loop-col.col c.args.at c.index-rows_of-at.result c.rows_of.result.now c.span-from.ensures.rising c.rows_of.ensures.column (let n = c.cols-col-end.ensures in let t = c.loop-col-test.true in omega (arith, n, t)) c.loop-col.invariant (omega (arith, to, before)) read).1
