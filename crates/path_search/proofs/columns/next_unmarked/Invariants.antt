use Rattle.std.proofs.Common.{length, map, ◌-◌}
use Rattle.path_search.specs.Trails.{HasPassed}
use Rattle.path_search.proofs.columns.next_unmarked.Given as goal

abbrev pub invariant-loop-at : goal.invariant-loop-at
invariant-loop-at g l = HasPassed l.reversed l.marks (map g.F.Id.number l.rows) l.at

abbrev pub decreases-loop-at : goal.decreases-loop-at
decreases-loop-at g l = length l.rows - l.at
