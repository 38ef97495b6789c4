use Rattle.std.proofs.Common.{◌≡◌, ℕ, take}
use Rattle.bip_defs.specs.Lists.{Among}
use Rattle.bip_defs.specs.Matrix.{column}
use Rattle.frontier_levels.specs.TopDownSearch.{Advances, HasGatheredIn, StaysCovered}
use Rattle.level_sharing.specs.Candidates.{IsCovered}
use Rattle.frontier_levels.proofs.search.TopDownSearch.gather_rows.Given as goal

abbrev pub invariant-loop-row : goal.invariant-loop-row
invariant-loop-row l = record {
  column_rows : l.row-items ≡ column l.self.forest.now.matrix l.col;
  progress : Advances l.self l.fn.worker l.worker;
  gathered : HasGatheredIn l.self l.worker l.candidates.items;
  stays : StaysCovered l.fn.worker l.fn.candidates.items l.worker l.candidates.items;
  covered : (r : ℕ) → Among r (take l.row-index l.row-items) → IsCovered l.worker l.candidates.items r l.root;
}
