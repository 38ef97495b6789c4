use Rattle.std.proofs.Common.{take}
use Rattle.path_search.specs.Batches.{Follows}
use Rattle.path_search.specs.Forests.{GrowOn}
use Rattle.path_search.proofs.forest.SearchForest.follow_all.Given as goal

abbrev pub invariant-loop-next : goal.invariant-loop-next
invariant-loop-next g l = record {
  grown : GrowOn (g.S.Side.matrix l.side) (g.F.Opposite.seen l.fn.matching) (g.F.Opposite.seen l.matching) l.fn.self l.self;
  follows : Follows (g.S.Side.matrix l.side) (g.F.Opposite.seen l.fn.matching) (g.F.Opposite.seen l.matching) l.fn.self l.self (take l.next-index l.candidates);
}
