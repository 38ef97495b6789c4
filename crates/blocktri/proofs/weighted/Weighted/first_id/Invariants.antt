use Rattle.std.proofs.Common.{◌≢◌, ◌+◌, ◌-◌, ◌<◌, ◌≤◌, ℕ, slice_index}
use Rattle.blocktri.proofs.weighted.Weighted.first_id.Given as goal

abbrev pub invariant-loop-matrix : goal.invariant-loop-matrix
invariant-loop-matrix g l = record {
  from : slice_index l.self.lists.starts l.fn.row ≤ l.k;
  to : l.k < slice_index l.self.lists.starts (l.fn.row + 1);
  before : (h : ℕ) → slice_index l.self.lists.starts l.fn.row ≤ h → h < l.k → slice_index l.self.lists.ids h ≢ l.fn.col;
}

abbrev pub decreases-loop-matrix : goal.decreases-loop-matrix
decreases-loop-matrix g l = slice_index l.self.lists.starts (l.fn.row + 1) - l.k
