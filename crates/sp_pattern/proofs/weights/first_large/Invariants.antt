use Rattle.std.proofs.Common.{ℕ, pos, ◌<◌, ◌≤◌, slice_index_or}
use Rattle.std.specs.Int.RustNames.{unsigned_abs}
use Rattle.sp_pattern.specs.Weights.{weight_limit}
use Rattle.sp_pattern.proofs.weights.first_large.Given as goal

abbrev pub invariant-loop-k : goal.invariant-loop-k
invariant-loop-k l = (i : ℕ) → i < l.k → unsigned_abs (slice_index_or l.sums i (pos 0)) ≤ weight_limit
