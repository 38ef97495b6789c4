use Rattle.std.proofs.Common.{◌≡◌, ◌≤◌, length, take, vec_capacity, vec_len}
use Rattle.sp_pattern.proofs.mirror.as_cols.Given as goal

abbrev pub invariant-loop-k : goal.invariant-loop-k
invariant-loop-k l = record {
  items : l.cols.items ≡ take l.k l.rows;
  count : vec_len l.cols ≡ l.k;
  room : length l.rows ≤ vec_capacity l.cols;
}
