use Rattle.std.proofs.Common.{◌∙◌, arith}
use Rattle.blocktri.proofs.FullDiagonalLemmas.{diagonal_all, diagonal_more, next_col_free, next_row_free}
use Rattle.blocktri.proofs.full_diagonal.diagonal.Goals as goal
use Rattle.blocktri.proofs.full_diagonal.diagonal.Goals.{then-rows-cols, else-rows-cols}

pub pair-requires-clause-row_free : goal.pair-requires-clause-row_free
pair-requires-clause-row_free c = next_row_free c.loop-side.matching.pairs c.loop-side.side c.loop-side.invariant.pairs

pub pair-requires-clause-col_free : goal.pair-requires-clause-col_free
pair-requires-clause-col_free c = next_col_free c.loop-side.matching.pairs c.loop-side.side c.loop-side.invariant.pairs

pub loop-side-preserved : goal.loop-side-preserved
loop-side-preserved c = record {
  rows = c.pair.ensures.sizes.0 ∙ c.loop-side.invariant.rows;
  cols = c.pair.ensures.sizes.1 ∙ c.loop-side.invariant.cols;
  pairing = c.pair.ensures.pairing;
  pairs = diagonal_more c.loop-side.matching.pairs c.pair.new.self.pairs c.loop-side.side c.pair.ensures.added c.loop-side.invariant.pairs;
}

pub returns-clause-pairs : goal.returns-clause-pairs
returns-clause-pairs c =
    let end = c.loop-side-test.false in
    let last = c.loop-side.auto.side-end in
    elim c.if-rows-cols.branch [
      | then-rows-cols w ↦
          let lt = w.if-rows-cols.true in
          let is = w.sides-is in
          diagonal_all c.loop-side.matching.pairs c.loop-side.side c.args.rows c.args.cols (λ k h. (omega (arith, h, lt, is, last), omega (arith, h, lt, is, last))) (λ k h g. omega (arith, h, is, end)) c.loop-side.invariant.pairs
      | else-rows-cols w ↦
          let le = w.if-rows-cols.false in
          let is = w.sides-is in
          diagonal_all c.loop-side.matching.pairs c.loop-side.side c.args.rows c.args.cols (λ k h. (omega (arith, h, le, is, last), omega (arith, h, le, is, last))) (λ k h g. omega (arith, g, is, end)) c.loop-side.invariant.pairs
    ]
