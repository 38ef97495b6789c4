use Rattle.std.proofs.Common.{◌≡◌, ◌∙◌, ◌-◌, ℕ, Bool, true, false, length, ap, subst, sym}
use Rattle.blocktri.specs.Answers.{TellsMatching}
use Rattle.blocktri.specs.Compressed.{CompressedLists, IsRoom, listed, pick, transpose_if}
use Rattle.blocktri.specs.Diagonal.{IsDiagonalFull}
use Rattle.blocktri.proofs.CompressedLemmas.{listed_cols}
use Rattle.blocktri.proofs.MatchedLemmas.{mates_room, tells_any, tells_turned, where_none}
use Rattle.blocktri.proofs.matchings.write_any.Goals as goal
use Rattle.blocktri.proofs.matchings.write_any.Goals.{then-matrix, else-matrix}

pub write_wanted_rows-requires-clause-room : goal.write_wanted_rows-requires-clause-room
write_wanted_rows-requires-clause-room g c = (mates_room c.args.matrix.now c.in-Some.matching c.args.row_of_column.now c.args.column_of_row.now c.requires.compressed (rw c.in-Some.is at c.in_ok-matching.ensures.maximum).matching c.requires.room).0

pub write_wanted_columns-requires-clause-room : goal.write_wanted_columns-requires-clause-room
write_wanted_columns-requires-clause-room g c = (mates_room c.args.matrix.now c.in-Some.matching c.args.row_of_column.now c.args.column_of_row.now c.requires.compressed (rw c.in-Some.is at c.in_ok-matching.ensures.maximum).matching c.requires.room).1

pub write_wanted_rows-requires-then-matrix-clause-room : goal.write_wanted_rows-requires-then-matrix-clause-room
write_wanted_rows-requires-then-matrix-clause-room g c =
    let l = c.args.matrix.now in
    let turned = ap (λ (v : CompressedLists). v.by_rows) c.matrix.view_is in
    let by_rows : l.by_rows ≡ true = sym turned ∙ c.if-matrix.true in
    subst (λ (n : ℕ). IsRoom n c.args.column_of_row.now) (ap (λ (b : Bool). pick b (length l.starts - 1) l.others) by_rows ∙ sym (listed_cols l) ∙ sym c.in_ok-matching-2.ensures.matching.cols) c.requires.room.columns_are

pub write_wanted_rows-requires-else-matrix-clause-room : goal.write_wanted_rows-requires-else-matrix-clause-room
write_wanted_rows-requires-else-matrix-clause-room g c =
    let l = c.args.matrix.now in
    let turned = ap (λ (v : CompressedLists). v.by_rows) c.matrix.view_is in
    let by_rows : l.by_rows ≡ false = sym turned ∙ c.if-matrix.false in
    subst (λ (n : ℕ). IsRoom n c.args.row_of_column.now) (ap (λ (b : Bool). pick b l.others (length l.starts - 1)) by_rows ∙ sym (listed_cols l) ∙ sym c.in_ok-matching-2.ensures.matching.cols) c.requires.room.rows_are

pub returns-clause-found : goal.returns-clause-found
returns-clause-found g c =
    let l = c.args.matrix.now in
    let m = c.in_ok-matching-2.matching.pairs in
    let max = c.in_ok-matching-2.ensures.maximum in
    let size = c.size-2.result in
    let is = c.size-2.ensures.size in
    let rows = c.args.row_of_column.now in
    let columns = c.args.column_of_row.now in
    let turned = ap (λ (v : CompressedLists). v.by_rows) c.matrix.view_is in
    let not_full : ¬ IsDiagonalFull (transpose_if l.by_rows (listed l)) = where_none (¬ IsDiagonalFull (transpose_if l.by_rows (listed l))) c.in_ok-matching.field-0 c.in_default.not-Some c.in_ok-matching.ensures.none in
    elim c.if-matrix.branch [
      | then-matrix w ↦
          let by_rows : true ≡ l.by_rows = sym w.if-matrix.true ∙ turned in
          let new_rows = w.write_wanted_columns-then-matrix.new.column_of_row in
          let new_columns = w.write_wanted_rows-then-matrix.new.row_of_column in
          rw (w.row_of_column-is, w.column_of_row-is) (subst (λ (b : Bool). TellsMatching (transpose_if b (listed l)) false size rows new_rows columns new_columns) by_rows
          (tells_turned (listed l) m size rows new_rows columns new_columns (subst (λ (b : Bool). ¬ IsDiagonalFull (transpose_if b (listed l))) (sym by_rows) not_full) max is w.write_wanted_columns-then-matrix.ensures w.write_wanted_rows-then-matrix.ensures))
      | else-matrix w ↦
          let by_rows : false ≡ l.by_rows = sym w.if-matrix.false ∙ turned in
          let new_rows = w.write_wanted_rows-else-matrix.new.row_of_column in
          let new_columns = w.write_wanted_columns-else-matrix.new.column_of_row in
          rw (w.row_of_column-is, w.column_of_row-is) (subst (λ (b : Bool). TellsMatching (transpose_if b (listed l)) false size rows new_rows columns new_columns) by_rows
          (tells_any (listed l) m size rows new_rows columns new_columns (subst (λ (b : Bool). ¬ IsDiagonalFull (transpose_if b (listed l))) (sym by_rows) not_full) max is w.write_wanted_rows-else-matrix.ensures w.write_wanted_columns-else-matrix.ensures))
    ]
