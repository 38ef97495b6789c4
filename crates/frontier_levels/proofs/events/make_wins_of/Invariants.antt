use Rattle.std.proofs.Common.{◌≡◌, ◌++◌, take}
use Rattle.frontier_levels.proofs.events.make_wins_of.Given as goal

abbrev pub invariant-loop-win : goal.invariant-loop-win
invariant-loop-win l = l.forest ≡ record l.fn.forest { leaves = l.fn.forest.leaves ++ take l.win-index l.wins }
