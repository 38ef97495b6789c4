use Rattle.std.proofs.Common.{◌∙◌, arith, refl, sym}
use Rattle.blocktri.specs.Compressed.{matrix_given}
use Rattle.blocktri.proofs.CompressedLemmas.{given_cols, given_diagonal, given_rows}
use Rattle.blocktri.proofs.FullDiagonalLemmas.{diagonal_maximum}
use Rattle.blocktri.proofs.full_diagonal.full_diagonal.Goals as goal

pub returns-then-not-is_diagonal_full-clause-none : goal.returns-then-not-is_diagonal_full-clause-none
returns-then-not-is_diagonal_full-clause-none g c = λ full.
    let yes = c.is_diagonal_full.ensures.1 ((given_diagonal c.args.matrix.now).0 full) in
    let no = c.if-not-is_diagonal_full.true in
    absurd (cc)

pub returns-clause-maximum : goal.returns-clause-maximum
returns-clause-maximum g c =
    let l = c.args.matrix.now in
    let m = c.in_ok-matching.matching in
    let full = (given_diagonal l).1 (c.is_diagonal_full.ensures.0 c.if-not-is_diagonal_full.false) in
    diagonal_maximum (matrix_given l) m c.rows.result c.columns.result (c.rows.ensures ∙ sym (given_rows l)) (c.columns.ensures ∙ sym (given_cols l)) c.in_ok-matching.ensures.rows c.in_ok-matching.ensures.cols c.in_ok-matching.ensures.pairs c.in_ok-matching.ensures.pairing full

pub returns-clause-diagonal : goal.returns-clause-diagonal
returns-clause-diagonal g c = λ i row col.
    let rows = given_rows c.args.matrix.now in
    let columns = given_cols c.args.matrix.now in
    let r = c.rows.ensures in
    let n = c.columns.ensures in
    (c.in_ok-matching.ensures.pairs i i).1 (refl, omega (arith, row, rows, r), omega (arith, col, columns, n))
