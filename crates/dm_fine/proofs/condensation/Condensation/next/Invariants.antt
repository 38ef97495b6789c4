use Rattle.std.proofs.Common.{◌≡◌, ◌-◌, [], length}
use Rattle.dm_fine.specs.Layout.{layout}
use Rattle.dm_fine.specs.Waiting.{IsOrdering}
use Rattle.dm_fine.proofs.condensation.Condensation.next.Given as goal

abbrev pub invariant-loop-s : goal.invariant-loop-s
invariant-loop-s g l = record {
  ordering : IsOrdering (layout (g.C.ColumnLists.matrix l.self.columns) (g.C.ColumnLists.listed l.self.columns) l.self.rows l.self.cols) l.s;
  none_ready : l.s.ready.members ≡ [];
  same : l.s.blocks ≡ l.fn.s.blocks;
}

abbrev pub decreases-loop-s : goal.decreases-loop-s
decreases-loop-s g l = length l.self.cols - l.s.cursor
