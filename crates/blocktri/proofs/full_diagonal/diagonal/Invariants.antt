use Rattle.std.proofs.Common.{◌≡◌}
use Rattle.bip_graph.specs.Matching.{IsPairing}
use Rattle.blocktri.proofs.FullDiagonalLemmas.{IsDiagonalBelow}
use Rattle.blocktri.proofs.full_diagonal.diagonal.Given as goal

abbrev pub invariant-loop-side : goal.invariant-loop-side
invariant-loop-side l = record {
  rows : l.matching.rows ≡ l.rows;
  cols : l.matching.cols ≡ l.cols;
  pairing : IsPairing l.matching;
  pairs : IsDiagonalBelow l.side l.matching.pairs;
}
