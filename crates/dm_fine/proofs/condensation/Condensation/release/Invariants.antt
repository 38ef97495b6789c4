use Rattle.std.proofs.Common.{◌≡◌, length}
use Rattle.dm_fine.specs.Layout.{layout}
use Rattle.dm_fine.specs.Waiting.{IsReleasing}
use Rattle.dm_fine.proofs.WaitLemmas.{walk}
use Rattle.dm_fine.proofs.condensation.Condensation.release.Given as goal

abbrev pub invariant-loop-next : goal.invariant-loop-next
invariant-loop-next g l = record {
  releasing : IsReleasing (layout (g.C.ColumnLists.matrix l.self.columns) (g.C.ColumnLists.listed l.self.columns) l.self.rows l.self.cols) l.fn.own l.next l.s;
  same : l.s.blocks ≡ l.fn.s.blocks;
}

abbrev pub decreases-loop-next : goal.decreases-loop-next
decreases-loop-next g l = walk l.s.waits.items (length l.self.cols) l.next
