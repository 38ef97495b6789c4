use Rattle.std.proofs.Common.{◌∙◌, arith, refl, sym}
use Rattle.blocktri.specs.Compressed.{matrix_given}
use Rattle.blocktri.proofs.FullDiagonalLemmas.{diagonal_long, diagonal_maximum}
use Rattle.blocktri.proofs.matched.diagonal_matching.Goals as goal

pub returns-clause-perfect : goal.returns-clause-perfect
returns-clause-perfect g c =
    let is = c.requires in
    let a = matrix_given c.args.matrix.now in
    let m = c.in_ok-matching.matching in
    let found = c.in_ok-matching.ensures in
    let most = diagonal_maximum a m c.args.size c.args.size (sym is.rows_are) (sym is.columns_are) found.rows found.cols found.pairs found.pairing is.full in
    record {
      maximum = most;
      square = is.rows_are ∙ sym is.columns_are;
      full = diagonal_long a m.pairs c.args.size (sym is.rows_are) (sym is.columns_are) found.pairs most.maximum;
    }

pub returns-clause-diagonal : goal.returns-clause-diagonal
returns-clause-diagonal g c = λ full i row col.
    let high = c.requires.rows_are in
    let broad = c.requires.columns_are in
    (c.in_ok-matching.ensures.pairs i i).1 (refl, omega (arith, row, high), omega (arith, col, broad))
