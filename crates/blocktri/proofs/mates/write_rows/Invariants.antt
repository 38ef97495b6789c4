use Rattle.std.proofs.Common.{◌≡◌, length}
use Rattle.blocktri.proofs.WriteLemmas.{AreRowsBelow}
use Rattle.blocktri.proofs.mates.write_rows.Given as goal

abbrev pub invariant-loop-col : goal.invariant-loop-col
invariant-loop-col l = record {
  long : length l.row_of_column ≡ length l.fn.row_of_column;
  rows : AreRowsBelow l.col l.matching.pairs l.row_of_column;
}
