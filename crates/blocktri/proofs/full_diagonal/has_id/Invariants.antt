use Rattle.std.proofs.Common.{◌≢◌, ℕ, ◌<◌, ◌≤◌, slice_index}
use Rattle.blocktri.proofs.full_diagonal.has_id.Given as goal

abbrev pub invariant-loop-at : goal.invariant-loop-at
invariant-loop-at g l = record {
  from : l.from ≤ l.at;
  before : (k : ℕ) → l.from ≤ k → k < l.at → slice_index (g.N.NumberList.numbers l.ids) k ≢ l.id;
}
