use Rattle.std.proofs.Common.{◌≡◌, ◌<◌}
use Rattle.least_match.proofs.ExchangeLemmas.{HasFree}
use Rattle.least_match.proofs.exchange.shift.Given as goal

abbrev pub invariant-loop-at : goal.invariant-loop-at
invariant-loop-at l = record {
  free : HasFree l.fn.matching.pairs l.matching.pairs l.tree.queue l.place l.fn.free l.at l.row;
  in_range : l.row < l.matching.rows;
  rows : l.matching.rows ≡ l.fn.matching.rows;
  cols : l.matching.cols ≡ l.fn.matching.cols;
}

abbrev pub decreases-loop-at : goal.decreases-loop-at
decreases-loop-at l = l.at
