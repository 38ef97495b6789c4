use Rattle.std.proofs.Common.{◌∙◌, arith, length-set}
use Rattle.blocktri.proofs.MatchedLemmas.{rows_all}
use Rattle.blocktri.proofs.WriteLemmas.{rows_more}
use Rattle.blocktri.proofs.mates.write_rows.Goals as goal

pub loop-col-preserved : goal.loop-col-preserved
loop-col-preserved c =
    let long = c.loop-col.invariant.long in
    let room = c.requires.long in
    let end = c.cols-col-end.ensures.count in
    let lt = c.loop-col-test.true in
    record {
      long = length-set c.loop-col.row_of_column c.loop-col.col c.row_or_none.result ∙ long;
      rows = rows_more c.args.matching.now.pairs c.loop-col.row_of_column c.loop-col.col c.row_or_none.result (omega (arith, long, room, end, lt)) c.row_or_none.ensures c.loop-col.invariant.rows;
    }

pub returns-clause-rows : goal.returns-clause-rows
returns-clause-rows c =
    let long = c.loop-col.invariant.long in
    let room = c.requires.long in
    let end = c.cols-col-end.ensures.count in
    let stop = c.loop-col-test.false in
    let until = c.loop-col.auto.col-end in
    rows_all c.args.matching.now.pairs c.loop-col.row_of_column c.loop-col.col (λ r d h. let within = c.cols-col-end.ensures.within r d h in omega (arith, within, end, stop)) (omega (arith, long, room, end, stop, until)) c.loop-col.invariant.rows
