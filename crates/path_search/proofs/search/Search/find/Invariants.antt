use Rattle.std.proofs.Common.{◌≡◌}
use Rattle.path_search.specs.Advances.{steps_left}
use Rattle.path_search.specs.Search.{HasMarked}
use Rattle.path_search.specs.Trails.{IsSearchAt}
use Rattle.path_search.proofs.search.Search.find.Given as goal

abbrev pub invariant-loop-next : goal.invariant-loop-next
invariant-loop-next g l = record {
  search : IsSearchAt (g.S.Side.matrix l.side) (g.F.Opposite.seen l.matching).pairs l.reversed l.self l.at.col l.at.place;
  marks : HasMarked l.self.visited l.fn.self.marks l.self.marks;
  root : l.self.root ≡ l.fn.root;
  cols : l.self.cols ≡ l.fn.self.cols;
}

abbrev pub decreases-loop-next : goal.decreases-loop-next
decreases-loop-next g l = steps_left (g.S.Side.matrix l.side) l.self
