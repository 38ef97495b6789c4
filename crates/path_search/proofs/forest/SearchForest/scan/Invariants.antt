use Rattle.std.proofs.Common.{map, take}
use Rattle.path_search.proofs.GrownTrees.{IsScanning}
use Rattle.path_search.proofs.forest.SearchForest.scan.Given as goal

abbrev pub invariant-loop-far : goal.invariant-loop-far
invariant-loop-far g l = IsScanning (g.S.Side.matrix l.side) (g.F.Opposite.seen l.matching).pairs l.root l.fn.self l.self (take l.far-index (map g.F.Id.number l.rows))
