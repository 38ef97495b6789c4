use Rattle.std.proofs.Common.{◌-◌, length}
use Rattle.dm_fine.specs.Layout.{layout}
use Rattle.dm_fine.specs.Waiting.{IsOrdering}
use Rattle.dm_fine.proofs.condensation.Condensation.order.Given as goal

abbrev pub invariant-loop-own : goal.invariant-loop-own
invariant-loop-own g l = IsOrdering (layout (g.C.ColumnLists.matrix l.self.columns) (g.C.ColumnLists.listed l.self.columns) l.self.rows l.self.cols) l.s

abbrev pub decreases-loop-own : goal.decreases-loop-own
decreases-loop-own g l = length l.self.cols - length l.s.blocks
