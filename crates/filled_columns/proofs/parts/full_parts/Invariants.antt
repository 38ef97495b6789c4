use Rattle.std.proofs.Common.{◌≡◌, ◌≤◌}
use Rattle.bip_defs.specs.Matrix.{upto}
use Rattle.filled_columns.proofs.parts.full_parts.Given as goal

abbrev pub invariant-loop-number : goal.invariant-loop-number
invariant-loop-number l = record {
  rows : l.rows.items ≡ upto l.number;
  cols : l.cols.items ≡ upto l.number;
  room_rows : l.size ≤ l.rows.cap;
  room_cols : l.size ≤ l.cols.cap;
}
