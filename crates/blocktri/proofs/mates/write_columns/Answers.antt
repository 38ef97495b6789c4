use Rattle.std.proofs.Common.{◌∙◌, arith, length-set}
use Rattle.bip_defs.specs.Matching.{transposed_places}
use Rattle.bip_defs.proofs.Transposed.{turned_back}
use Rattle.blocktri.proofs.MatchedLemmas.{rows_all, told_turned}
use Rattle.blocktri.proofs.WriteLemmas.{rows_more}
use Rattle.blocktri.proofs.mates.write_columns.Goals as goal

pub loop-row-preserved : goal.loop-row-preserved
loop-row-preserved c =
    let m = c.args.matching.now.pairs in
    let long = c.loop-row.invariant.long in
    let room = c.requires.long in
    let end = c.rows-row-end.ensures.count in
    let lt = c.loop-row-test.true in
    record {
      long = length-set c.loop-row.column_of_row c.loop-row.row c.column_or_none.result ∙ long;
      columns = rows_more (transposed_places m) c.loop-row.column_of_row c.loop-row.row c.column_or_none.result (omega (arith, long, room, end, lt)) (told_turned m c.loop-row.row c.column_or_none.result c.column_or_none.ensures) c.loop-row.invariant.columns;
    }

pub returns-clause-columns : goal.returns-clause-columns
returns-clause-columns c =
    let m = c.args.matching.now.pairs in
    let long = c.loop-row.invariant.long in
    let room = c.requires.long in
    let end = c.rows-row-end.ensures.count in
    let stop = c.loop-row-test.false in
    let until = c.loop-row.auto.row-end in
    rows_all (transposed_places m) c.loop-row.column_of_row c.loop-row.row (λ d r h. let within = c.rows-row-end.ensures.within r d (turned_back r d m h) in omega (arith, within, end, stop)) (omega (arith, long, room, end, stop, until)) c.loop-row.invariant.columns
