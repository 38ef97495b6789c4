use Rattle.std.proofs.Common.{ℕ, take}
use Rattle.bip_defs.specs.Lists.{Among}
use Rattle.bottom_up.specs.Candidates.{IsCoveredRow}
use Rattle.bottom_up.specs.Candidates.{Advances, HasGatheredRows}
use Rattle.bottom_up.proofs.search.BottomUpSearch.go_through.Given as goal

abbrev pub invariant-loop-row : goal.invariant-loop-row
invariant-loop-row l = record {
  progress : Advances l.self.forest.now l.self.free.now l.fn.worker l.worker;
  gathered : HasGatheredRows l.self.forest.now l.self.board.now l.self.free.now l.worker l.candidates.items;
  covered : (r : ℕ) → Among r (take l.row-index l.self.free.now) → IsCoveredRow l.self.forest.now l.worker l.candidates.items r;
}
