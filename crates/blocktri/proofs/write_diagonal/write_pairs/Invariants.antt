use Rattle.std.proofs.Common.{◌≡◌, length, slice_index, take}
use Rattle.bip_defs.specs.Lists.{Among}
use Rattle.bip_defs.specs.Matrix.{Place}
use Rattle.blocktri.proofs.write_diagonal.write_pairs.Given as goal

abbrev pub invariant-loop-k : goal.invariant-loop-k
invariant-loop-k l = record {
  long : length l.row_of_column ≡ length l.fn.row_of_column;
  set : (q : Place) → Among q (take l.k l.pairs) → slice_index l.row_of_column q.1 ≡ q.0;
}
