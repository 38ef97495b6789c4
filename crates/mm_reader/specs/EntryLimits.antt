-- Entries that are within the limits of a file.
use Rattle.std.specs.Prelude.{◌≤◌, ◌*◌, length}
use Rattle.sp_ids.specs.Entries.{Entries}
use Rattle.sp_ids.specs.Limits.{max_cols, max_entry_lines, max_rows}

-- The sizes are within the limits. An entry line gives its entry, and at most one more on the other side of the diagonal.
pub record AreWithinLimits (t : Entries) : Type 0 where
  pub rows : t.rows ≤ max_rows
  pub cols : t.cols ≤ max_cols
  pub items : length t.items ≤ 2 * max_entry_lines
