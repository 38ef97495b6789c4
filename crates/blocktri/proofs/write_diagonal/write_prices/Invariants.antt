use Rattle.std.proofs.Common.{◌≡◌, ◌<◌, ℕ, length, pos, slice_index_or}
use Rattle.blocktri.proofs.write_diagonal.write_prices.Given as goal

abbrev pub invariant-loop-k : goal.invariant-loop-k
invariant-loop-k l = record {
  long : length l.out ≡ length l.fn.out;
  set : (i : ℕ) → i < l.k → slice_index_or l.out i (pos 0) ≡ slice_index_or l.prices i (pos 0);
}
