use Rattle.path_search.proofs.StartLemmas.{HaveStarted}
use Rattle.path_search.proofs.forest.SearchForest.start.Given as goal

abbrev pub invariant-loop-number : goal.invariant-loop-number
invariant-loop-number g l = HaveStarted (g.S.Side.matrix l.side) (g.F.Opposite.seen l.matching).pairs l.self l.number
