use Rattle.std.proofs.Common.{◌≡◌, ◌-◌, ◌+◌, false, length, if◌then◌else◌}
use Rattle.bip_defs.specs.Matching.{IsMaximum}
use Rattle.bip_defs.specs.Matrix.{cols}
use Rattle.bip_defs.specs.Forest.{IsRested, new_forest}
use Rattle.tree_graft.specs.Phases.{StaysMatched}
use Rattle.tree_graft.proofs.maximum.complete_by_phases.Given as goal

abbrev pub invariant-loop-grows : goal.invariant-loop-grows
invariant-loop-grows g l = record {
  rested : IsRested l.forest;
  matched : StaysMatched (new_forest l.pattern l.fn.matching.pairs) l.forest;
  last : l.grows ≡ false → IsMaximum l.pattern l.forest.base;
}

abbrev pub decreases-loop-grows : goal.decreases-loop-grows
decreases-loop-grows g l = (cols l.pattern - length l.forest.base) + (if l.grows then 1 else 0)
