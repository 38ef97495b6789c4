use Rattle.std.proofs.Common.{◌≡◌, ◌++◌, length, map, slice_index}
use Rattle.std.specs.List.{slice_range}
use Rattle.blocktri.specs.Weighted.{turned_triple}
use Rattle.sp_ids.specs.declared.triples.Field.TheVariants.{Integer}
use Rattle.sp_pattern.specs.ValuedColumns.{triples_in, triples_of_first}
use Rattle.blocktri.proofs.weighted.Weighted.triples_of_rows.Given as goal

abbrev pub invariant-loop-row : goal.invariant-loop-row
invariant-loop-row g l = record {
  rows_are : l.triples.rows ≡ l.rows;
  cols_are : l.triples.cols ≡ l.self.lists.others;
  field_is : l.triples.field ≡ Integer;
  long : length l.triples.items ≡ slice_index l.self.lists.starts l.row;
  items : l.triples.items ≡ map turned_triple (triples_of_first l.row l.self.lists.starts l.self.lists.ids l.self.values);
}

abbrev pub invariant-loop-k : goal.invariant-loop-k
invariant-loop-k g l = record {
  rows_are : l.triples.rows ≡ l.rows;
  cols_are : l.triples.cols ≡ l.self.lists.others;
  field_is : l.triples.field ≡ Integer;
  long : length l.triples.items ≡ l.k;
  items : l.triples.items ≡ map turned_triple (triples_of_first l.row l.self.lists.starts l.self.lists.ids l.self.values)
      ++ map turned_triple (triples_in l.row (slice_range l.self.lists.ids l.from l.k) (slice_range l.self.values l.from l.k));
}
