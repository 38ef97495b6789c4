use Rattle.dm_fine.specs.Layout.{layout}
use Rattle.dm_fine.specs.Waits.{IsPassed}
use Rattle.dm_fine.proofs.condensation.Condensation.look.Given as goal

abbrev pub invariant-loop-k : goal.invariant-loop-k
invariant-loop-k g l = IsPassed (layout (g.C.ColumnLists.matrix l.self.columns) (g.C.ColumnLists.listed l.self.columns) l.self.rows l.self.cols) l.of_rows l.own l.k l.from
