use Rattle.std.proofs.Common.{◌≡◌}
use Rattle.bip_graph.specs.Matching.{IsPairing}
use Rattle.least_match.proofs.ExchangeLemmas.{HasHole}
use Rattle.least_match.proofs.exchange.vacate.Given as goal

abbrev pub invariant-loop-at : goal.invariant-loop-at
invariant-loop-at l = record {
  hole : HasHole l.fn.matching.pairs l.matching.pairs l.tree.queue l.at l.free;
  pairing : IsPairing l.matching;
  rows : l.matching.rows ≡ l.fn.matching.rows;
  cols : l.matching.cols ≡ l.fn.matching.cols;
}

abbrev pub decreases-loop-at : goal.decreases-loop-at
decreases-loop-at l = l.at
