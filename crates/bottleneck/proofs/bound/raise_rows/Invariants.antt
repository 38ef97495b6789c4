use Rattle.std.proofs.Common.{◌≡◌, length}
use Rattle.bottleneck.proofs.bound.raise_rows.Given as goal

abbrev pub invariant-loop-k : goal.invariant-loop-k
invariant-loop-k l = record { long : length l.of_rows ≡ length l.fn.of_rows }
