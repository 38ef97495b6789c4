use Rattle.column_lists.proofs.PatternLists.{by_columns}
use Rattle.column_lists.proofs.of_pattern.PatternColumnsColumnLists.are_listed.Goals as goal

pub returns : goal.returns
returns c = by_columns _ c.is_pattern.ensures
