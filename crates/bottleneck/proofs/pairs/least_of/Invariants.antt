use Rattle.std.proofs.Common.{take}
use Rattle.sp_pattern.specs.Weights.{weight_at}
use Rattle.bottleneck.proofs.PairLemmas.{IsLeast}
use Rattle.bottleneck.proofs.pairs.least_of.Given as goal

abbrev pub invariant-loop-k : goal.invariant-loop-k
invariant-loop-k l = IsLeast (weight_at l.weights) (take l.k l.pairs) l.least
