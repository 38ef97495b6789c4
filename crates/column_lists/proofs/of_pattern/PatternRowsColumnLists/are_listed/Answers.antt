use Rattle.column_lists.proofs.PatternLists.{by_rows}
use Rattle.column_lists.proofs.of_pattern.PatternRowsColumnLists.are_listed.Goals as goal

pub returns : goal.returns
returns c = by_rows _ c.is_pattern.ensures
