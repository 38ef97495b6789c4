use Rattle.std.proofs.Common.{◌≤◌, length, slice_index}
use Rattle.sp_pattern.specs.ValuedColumns.{entries_given}
use Rattle.sp_pattern.proofs.SumLemmas.{AreSumsSoFar}
use Rattle.sp_pattern.proofs.valued_columns.column_sums.Given as goal

abbrev pub invariant-loop-col : goal.invariant-loop-col
invariant-loop-col g l = AreSumsSoFar (entries_given l.pattern.rows (g.N.NumberList.numbers l.starts) (g.N.NumberList.numbers l.ids) l.values) l.pattern (slice_index (g.N.NumberList.numbers l.starts) l.col) l.sums.items

abbrev pub invariant-loop-k : goal.invariant-loop-k
invariant-loop-k g l = record {
  near : l.near ≤ length l.rows;
  sums : AreSumsSoFar (entries_given l.pattern.rows (g.N.NumberList.numbers l.starts) (g.N.NumberList.numbers l.ids) l.values) l.pattern l.k l.sums.items;
}
