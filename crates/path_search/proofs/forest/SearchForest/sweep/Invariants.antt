use Rattle.std.proofs.Common.{◌-◌, ◌≤◌, length}
use Rattle.bip_defs.specs.Matching.{Covers}
use Rattle.bip_defs.specs.Matrix.{cols}
use Rattle.path_search.specs.Forests.{AreGrowing}
use Rattle.path_search.proofs.SweepLemmas.{HasGrown}
use Rattle.path_search.proofs.forest.SearchForest.sweep.Given as goal

abbrev pub invariant-loop-place : goal.invariant-loop-place
invariant-loop-place g l = record {
  growing : AreGrowing (g.S.Side.matrix l.side) (g.F.Opposite.seen l.matching) l.self;
  within : l.place ≤ length l.self.queue;
  covered : Covers (g.F.Opposite.seen l.fn.matching).pairs (g.F.Opposite.seen l.matching).pairs;
  grown : HasGrown (g.S.Side.matrix l.side) (g.F.Opposite.seen l.fn.matching) (g.F.Opposite.seen l.matching) l.self l.place;
}

abbrev pub decreases-loop-place : goal.decreases-loop-place
decreases-loop-place g l = cols (g.S.Side.matrix l.side) - l.place
