use Rattle.std.proofs.Common.{◌≡◌, ◌-◌, length}
use Rattle.bip_defs.specs.Bottleneck.{IsLeastWeight}
use Rattle.bip_defs.specs.Matrix.{cols}
use Rattle.bip_graph.specs.Matching.{IsMatchingOf}
use Rattle.sp_pattern.specs.Weights.{weight_at}
use Rattle.bottleneck.proofs.answer.shown.Given as goal

abbrev pub invariant-loop-pairs : goal.invariant-loop-pairs
invariant-loop-pairs l = record {
  matching : IsMatchingOf l.weights.matrix l.matching;
  full : length l.matching.pairs ≡ cols l.weights.matrix;
  pairs : l.pairs.items ≡ l.matching.pairs;
  least : IsLeastWeight (weight_at l.weights) l.matching.pairs l.least;
}

abbrev pub decreases-loop-pairs : goal.decreases-loop-pairs
decreases-loop-pairs l = 18446744073709551616 - l.least
