use Rattle.std.proofs.Common.{◌∙◌, inr, refl, subst, sym}
use Rattle.blocktri.specs.Compressed.{IsRoom, matrix_given}
use Rattle.blocktri.proofs.CompressedLemmas.{given_cols, given_rows}
use Rattle.blocktri.proofs.PairLemmas.{told_least}
use Rattle.blocktri.proofs.warm_start.matching_from.Goals as goal

pub returns-then-is_least-clause-found : goal.returns-then-is_least-clause-found
returns-then-is_least-clause-found g c = record {
  compressed = c.in_ok-check.ensures.right;
  holds = told_least (matrix_given c.args.matrix.now) c.args.is_least c.in_ok-size.size c.args.row_of_column.now c.write_least.new.row_of_column c.args.column_of_row.now c.write_least.new.column_of_row c.in_ok-start.start c.if-is_least.true c.in_ok-start.ensures.given c.in_ok-size.ensures.found;
}

pub write_wanted_rows-requires-clause-room : goal.write_wanted_rows-requires-clause-room
write_wanted_rows-requires-clause-room g c =
    let room = c.if-not-have_room.ensures.0 refl in
    inr (room.rows_are ∙ sym (given_cols c.args.matrix.now) ∙ sym c.in_ok-matching.ensures.maximum.matching.cols)

pub write_wanted_columns-requires-clause-room : goal.write_wanted_columns-requires-clause-room
write_wanted_columns-requires-clause-room g c =
    let room = c.if-not-have_room.ensures.0 refl in
    subst (λ n. IsRoom n c.args.column_of_row.now) (sym (c.in_ok-matching.ensures.maximum.matching.rows ∙ given_rows c.args.matrix.now)) room.columns_are
