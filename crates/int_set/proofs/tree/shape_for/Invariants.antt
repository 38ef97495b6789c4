use Rattle.std.proofs.Common.{◌≡◌, ◌≤◌, ◌*◌, ◌-◌}
use Rattle.int_set.specs.Tree.{start_of}
use Rattle.int_set.proofs.tree.shape_for.Given as goal

abbrev pub invariant-loop-start : goal.invariant-loop-start
invariant-loop-start l = (l.start ≡ start_of l.depth) × (l.depth ≤ l.start) × (l.start ≤ 2 * l.lowest)

abbrev pub decreases-loop-start : goal.decreases-loop-start
decreases-loop-start l = l.lowest - l.start
