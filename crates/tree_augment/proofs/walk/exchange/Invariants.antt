use Rattle.std.proofs.Common.{◌+◌, ◌*◌, ◌-◌, length}
use Rattle.tree_augment.proofs.WalkLemmas.{CanWalk, HasComeTo}
use Rattle.tree_augment.proofs.walk.exchange.Given as goal

abbrev pub invariant-loop-col : goal.invariant-loop-col
invariant-loop-col l = record {
  can : CanWalk l.forest l.board l.root l.fn.seat;
  walk : HasComeTo l.forest l.board l.root l.row l.fn.seat l.seat;
}

abbrev pub decreases-loop-col : goal.decreases-loop-col
decreases-loop-col l = length l.fn.seat.listed.sets + 2 * l.forest.matrix.rows - length l.seat.listed.sets
