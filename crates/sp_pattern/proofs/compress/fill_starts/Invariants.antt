use Rattle.std.proofs.Common.{◌≡◌, ◌+◌, ◌-◌, ◌≤◌, ℕ, List, length}
use Rattle.sp_pattern.specs.Pairs.{IsCompressed, Pair}
use Rattle.sp_pattern.proofs.compress.fill_starts.Given as goal

abbrev pub invariant-loop-starts : goal.invariant-loop-starts
invariant-loop-starts l = record {
  room : length l.starts.items ≤ l.outer + 1;
  compressed : (ds : List Pair) (flat : List ℕ) → length flat ≡ l.end → IsCompressed ds l.fn.starts.items flat → IsCompressed ds l.starts.items flat;
}

abbrev pub decreases-loop-starts : goal.decreases-loop-starts
decreases-loop-starts l = l.outer + 1 - length l.starts.items
