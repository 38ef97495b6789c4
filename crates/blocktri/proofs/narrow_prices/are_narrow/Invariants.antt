use Rattle.std.proofs.Common.{◌<◌, ℕ, FitsSigned, pos, slice_index_or}
use Rattle.std.specs.Int.{w64}
use Rattle.blocktri.proofs.narrow_prices.are_narrow.Given as goal

abbrev pub invariant-loop-k : goal.invariant-loop-k
invariant-loop-k l = (i : ℕ) → i < l.k → FitsSigned w64 (slice_index_or l.prices i (pos 0))
