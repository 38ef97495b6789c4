use Rattle.std.proofs.Common.{◌+◌, ◌≤◌, get_or, length, map}
use Rattle.sp_pattern.specs.Mirror.{HasPieces, both_sides}
use Rattle.sp_pattern.proofs.mirror.both_halves.Given as goal

abbrev pub invariant-loop-at : goal.invariant-loop-at
invariant-loop-at g l = record {
  pieces : HasPieces l.at (both_sides l.col_starts l.col_rows l.row_starts l.row_cols) l.starts.items (map g.I.Id.number l.flat.items);
  few : length l.flat.items ≤ get_or l.row_starts l.at 0 + get_or l.col_starts l.at 0;
}
