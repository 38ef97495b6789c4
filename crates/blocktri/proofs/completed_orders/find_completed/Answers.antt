use Rattle.std.proofs.Common.{◌≡◌, ◌∙◌, ℕ, false, ap, subst, sym}
use Rattle.bip_defs.specs.Lists.{Lists}
use Rattle.bip_defs.specs.Matrix.{IsEntry, Matrix, column}
use Rattle.blocktri.specs.Matched.{IsSearchOf}
use Rattle.blocktri.specs.Compressed.{listed, matrix_given, transpose_if}
use Rattle.blocktri.specs.Diagonal.{KeepsDiagonal}
use Rattle.blocktri.specs.PerfectMatchings.{IsPerfectMatching}
use Rattle.blocktri.proofs.CompressedLemmas.{given_by_columns}
use Rattle.blocktri.proofs.PairedLemmas.{given_rising}
use Rattle.blocktri.proofs.completed_orders.find_completed.Goals as goal

pub complete_searched-requires-clause-rising : goal.complete_searched-requires-clause-rising
complete_searched-requires-clause-rising g c =
    let l = c.args.matrix.now in
    let is : IsSearchOf (matrix_given l) c.in-Searched.search = rw c.in-Searched.is at c.in_ok-size.ensures in
    subst (λ (a : Matrix). (d : ℕ) → Lists (λ r. IsEntry a r d) (column a d)) (sym is.pattern_is) (given_rising l (c.columns_give_their_places.ensures.places l.others l.starts l.ids c.requires.compressed))

pub complete-requires-clause-diagonal : goal.complete-requires-clause-diagonal
complete-requires-clause-diagonal g c =
    let l = c.args.matrix.now in
    let is = rw c.in-Diagonal.is at c.in_ok-size.ensures in
    subst (λ (a : Matrix). KeepsDiagonal a c.in_ok-matching-in-Diagonal.matching.pairs) (given_by_columns l is.by_columns ∙ sym c.given_columns.ensures) c.in_ok-matching-in-Diagonal.ensures.diagonal

pub complete-requires-in-Perfect-clause-diagonal : goal.complete-requires-in-Perfect-clause-diagonal
complete-requires-in-Perfect-clause-diagonal g c =
    let l = c.args.matrix.now in
    let m = c.in-Perfect.matching in
    let is : (l.by_rows ≡ false) × IsPerfectMatching (matrix_given l) m × KeepsDiagonal (matrix_given l) m.pairs = rw c.in-Perfect.is at c.in_ok-size.ensures in
    let (by_columns, perfect, keeps) = is in
    subst (λ (a : Matrix). KeepsDiagonal a m.pairs) (given_by_columns l by_columns ∙ sym c.given_columns-in-Perfect.ensures) keeps
