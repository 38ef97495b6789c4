use Rattle.std.proofs.Common.{◌-◌, ◌≤◌, length}
use Rattle.bip_defs.specs.Matching.{Covers}
use Rattle.bip_defs.specs.Matrix.{cols}
use Rattle.path_search.specs.Search.{CanSearch}
use Rattle.pothen_fan.specs.Roots.{HoldRoots}
use Rattle.pothen_fan.proofs.longer.lengthen_from.Given as goal

abbrev pub invariant-loop-longer : goal.invariant-loop-longer
invariant-loop-longer g l = record {
  ready : CanSearch (g.S.Side.matrix l.side) (g.F.Opposite.seen l.longer) l.search;
  roots : HoldRoots (g.S.Side.matrix l.side) (g.F.Opposite.seen l.longer).pairs l.roots.items;
  covered : Covers (g.F.Opposite.seen l.fn.matching).pairs (g.F.Opposite.seen l.longer).pairs;
  grown : length (g.F.Opposite.seen l.fn.matching).pairs ≤ length (g.F.Opposite.seen l.longer).pairs;
}

abbrev pub decreases-loop-longer : goal.decreases-loop-longer
decreases-loop-longer g l = cols (g.S.Side.matrix l.side) - length (g.F.Opposite.seen l.longer).pairs
