use Rattle.std.proofs.Common.{◌+◌, ◌-◌, ◌≤◌}
use Rattle.path_search.specs.Forests.{GrowOn, Progresses}
use Rattle.path_search.proofs.forest.SearchForest.batch.Given as goal

abbrev pub invariant-loop-at : goal.invariant-loop-at
invariant-loop-at g l = record {
  within : l.at ≤ l.count;
  grown : GrowOn (g.S.Side.matrix l.side) (g.F.Opposite.seen l.fn.matching) (g.F.Opposite.seen l.matching) l.fn.self l.self;
  progresses : Progresses (g.S.Side.matrix l.side) (g.F.Opposite.seen l.fn.matching) (g.F.Opposite.seen l.matching) l.fn.self l.self l.place (l.place + l.at);
}

abbrev pub decreases-loop-at : goal.decreases-loop-at
decreases-loop-at g l = l.count - l.at
