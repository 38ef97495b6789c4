use Rattle.std.proofs.Common.{◌≡◌, ◌++◌, take}
use Rattle.sp_ids.specs.Entries.{places}
use Rattle.edit_session.specs.Columns.{column_places}
use Rattle.edit_session.proofs.patterns.push_column.Given as goal

abbrev pub invariant-loop-row : goal.invariant-loop-row
invariant-loop-row l = record {
  rows : l.triples.rows ≡ l.initial.triples.rows;
  cols : l.triples.cols ≡ l.initial.triples.cols;
  field : l.triples.field ≡ l.initial.triples.field;
  places : places l.triples ≡ places l.initial.triples ++ column_places l.col (take l.row-index l.rows);
}
