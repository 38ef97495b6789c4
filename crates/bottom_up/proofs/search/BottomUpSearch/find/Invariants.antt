use Rattle.std.proofs.Common.{take}
use Rattle.bottom_up.proofs.SearchLemmas.{HasLooked}
use Rattle.bottom_up.proofs.search.BottomUpSearch.find.Given as goal

abbrev pub invariant-loop-col : goal.invariant-loop-col
invariant-loop-col l = HasLooked l.self.forest.now (take l.col-index l.cols) l.fn.worker l.worker
