use Rattle.std.proofs.Common.{◌≡◌, ◌-◌, length}
use Rattle.path_search.proofs.layers.Layers.next_row.Given as goal

abbrev pub invariant-loop-at : goal.invariant-loop-at
invariant-loop-at g l = l.self ≡ l.fn.self

abbrev pub decreases-loop-at : goal.decreases-loop-at
decreases-loop-at g l = length l.rows - l.at
