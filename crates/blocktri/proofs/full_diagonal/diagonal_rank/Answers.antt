use Rattle.std.proofs.Common.{arith, inl, inr}
use Rattle.blocktri.specs.Compressed.{matrix_given}
use Rattle.blocktri.proofs.CompressedLemmas.{given_cols, given_diagonal, given_rows}
use Rattle.blocktri.proofs.FullDiagonalLemmas.{full_diagonal_rank}
use Rattle.blocktri.proofs.full_diagonal.diagonal_rank.Goals as goal
use Rattle.blocktri.proofs.full_diagonal.diagonal_rank.Goals.{then-rows-columns, else-rows-columns}

pub returns-then-is_diagonal_full : goal.returns-then-is_diagonal_full
returns-then-is_diagonal_full g c =
    let l = c.args.matrix.now in
    let a = matrix_given l in
    let n = c.if-rows-columns.sides in
    let rows = given_rows l in
    let columns = given_cols l in
    let high = c.rows-rows.ensures in
    let broad = c.columns-columns.ensures in
    let full = (given_diagonal l).1 (c.is_diagonal_full.ensures.0 c.if-is_diagonal_full.true) in
    elim c.if-rows-columns.branch [
      | then-rows-columns w ↦
          let is = w.sides-is in
          let lt = w.if-rows-columns.true in
          full_diagonal_rank a n (omega (arith, is, high, rows)) (omega (arith, is, lt, broad, columns)) (inl (omega (arith, is, high, rows))) full
      | else-rows-columns w ↦
          let is = w.sides-is in
          let le = w.if-rows-columns.false in
          full_diagonal_rank a n (omega (arith, is, le, high, rows)) (omega (arith, is, broad, columns)) (inr (omega (arith, is, broad, columns))) full
    ]
