use Rattle.std.proofs.Common.{◌≢◌, ◌≤◌, ◌<◌, ℕ, slice_index}
use Rattle.sp_pattern.proofs.valued_columns.first_id.Given as goal

abbrev pub invariant-loop-k : goal.invariant-loop-k
invariant-loop-k g l = (h : ℕ) → l.from ≤ h → h < l.k → slice_index (g.N.NumberList.numbers l.ids) h ≢ l.fn.row
