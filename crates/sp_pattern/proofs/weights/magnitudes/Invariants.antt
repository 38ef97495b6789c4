use Rattle.std.proofs.Common.{◌≡◌, map, take}
use Rattle.std.specs.Int.RustNames.{unsigned_abs}
use Rattle.sp_pattern.proofs.weights.magnitudes.Given as goal

abbrev pub invariant-loop-k : goal.invariant-loop-k
invariant-loop-k l = l.weights.items ≡ map unsigned_abs (take l.k l.sums)
