use Rattle.std.proofs.Common.{◌≡◌, ◌++◌, take}
use Rattle.claim_words.specs.WorkerState.{fresh_wins_of}
use Rattle.frontier_levels.proofs.events.make_wins.Given as goal

abbrev pub invariant-loop-worker : goal.invariant-loop-worker
invariant-loop-worker l = l.forest ≡ record l.fn.forest { leaves = l.fn.forest.leaves ++ fresh_wins_of (take l.worker-index l.workers) }
