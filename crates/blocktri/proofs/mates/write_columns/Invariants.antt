use Rattle.std.proofs.Common.{◌≡◌, length}
use Rattle.bip_defs.specs.Matching.{transposed_places}
use Rattle.blocktri.proofs.WriteLemmas.{AreRowsBelow}
use Rattle.blocktri.proofs.mates.write_columns.Given as goal

abbrev pub invariant-loop-row : goal.invariant-loop-row
invariant-loop-row l = record {
  long : length l.column_of_row ≡ length l.fn.column_of_row;
  columns : AreRowsBelow l.row (transposed_places l.matching.pairs) l.column_of_row;
}
