use Rattle.std.proofs.Common.{◌≡◌, ◌≤◌, ◌-◌, IfSome, length}
use Rattle.bip_defs.specs.Matrix.{cols}
use Rattle.bip_graph.specs.Matching.{IsMatchingOf}
use Rattle.bottleneck.specs.Heavier.{IsShort}
use Rattle.bottleneck.proofs.thresholds.raised.Given as goal

abbrev pub invariant-loop-low : goal.invariant-loop-low
invariant-loop-low l = record {
  matching : IsMatchingOf l.weights.matrix l.matching;
  full : length l.matching.pairs ≡ cols l.weights.matrix;
  short : IfSome l.short (IsShort l.weights);
  within : l.high ≤ length l.thresholds.items;
}

abbrev pub decreases-loop-low : goal.decreases-loop-low
decreases-loop-low l = l.high - l.low
