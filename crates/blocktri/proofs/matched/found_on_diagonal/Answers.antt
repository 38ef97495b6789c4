use Rattle.std.proofs.Common.{◌∙◌, ap, arith, refl, sym}
use Rattle.blocktri.specs.Compressed.{CompressedLists, matrix_given}
use Rattle.blocktri.proofs.CompressedLemmas.{given_cols, given_diagonal, given_rows}
use Rattle.blocktri.proofs.FullDiagonalLemmas.{diagonal_maximum}
use Rattle.blocktri.proofs.matched.found_on_diagonal.Goals as goal

pub returns-then-rows-columns : goal.returns-then-rows-columns
returns-then-rows-columns g c =
    let l = c.args.matrix.now in
    record {
      by_columns = ap (λ (v : CompressedLists). v.by_rows) (sym c.matrix.view_is) ∙ c.if-not-matrix.true;
      rows_are = given_rows l ∙ sym c.rows.ensures ∙ c.if-rows-columns.true;
      columns_are = given_cols l ∙ sym c.columns.ensures;
      full = (given_diagonal l).1 c.requires.full;
    }

pub returns : goal.returns
returns g c =
    let l = c.args.matrix.now in
    let m = c.in_ok-matching.matching in
    let full = (given_diagonal l).1 c.requires.full in
    record {
      pattern_is = c.in_ok-pattern.ensures;
      maximum = diagonal_maximum (matrix_given l) m c.rows.result c.columns.result (c.rows.ensures ∙ sym (given_rows l)) (c.columns.ensures ∙ sym (given_cols l)) c.in_ok-matching.ensures.rows c.in_ok-matching.ensures.cols c.in_ok-matching.ensures.pairs c.in_ok-matching.ensures.pairing full;
      diagonal = λ yes i row col.
          let rows = given_rows l in
          let columns = given_cols l in
          let high = c.rows.ensures in
          let broad = c.columns.ensures in
          (c.in_ok-matching.ensures.pairs i i).1 (refl, omega (arith, row, rows, high), omega (arith, col, columns, broad));
      marks_are = tt;
    }
