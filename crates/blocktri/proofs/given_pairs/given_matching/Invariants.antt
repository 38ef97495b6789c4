use Rattle.std.proofs.Common.{◌≡◌}
use Rattle.bip_graph.specs.Matching.{IsPairing}
use Rattle.blocktri.specs.Compressed.{column_count, matrix_given, row_count}
use Rattle.blocktri.proofs.PairLemmas.{IsPairedBelow}
use Rattle.blocktri.proofs.given_pairs.given_matching.Given as goal

abbrev pub invariant-loop-at : goal.invariant-loop-at
invariant-loop-at g l = record {
  rows : l.matching.rows ≡ row_count l.matrix;
  cols : l.matching.cols ≡ column_count l.matrix;
  pairing : IsPairing l.matching;
  paired : IsPairedBelow (matrix_given l.matrix) l.row_of_column l.at l.matching.pairs;
}
