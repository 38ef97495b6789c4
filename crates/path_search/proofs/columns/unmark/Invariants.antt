use Rattle.std.proofs.Common.{take}
use Rattle.path_search.specs.Search.{Unmarks}
use Rattle.path_search.proofs.columns.unmark.Given as goal

abbrev pub invariant-loop-row : goal.invariant-loop-row
invariant-loop-row l = Unmarks (take l.row-index l.rows) l.fn.marks l.marks
