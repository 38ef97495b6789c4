-- Entries that are added.
use Rattle.std.specs.Prelude.{List, ◌++◌}
use Rattle.sp_ids.specs.Entries.{Entries, Triple}

-- the entries with more at their end
abbrev pub with_entries : Entries → List Triple → Entries
with_entries t more = record {
  rows = t.rows;
  cols = t.cols;
  field = t.field;
  items = t.items ++ more;
}
