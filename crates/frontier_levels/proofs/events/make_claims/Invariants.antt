use Rattle.std.proofs.Common.{◌≡◌, ◌++◌, take}
use Rattle.claim_words.specs.WorkerState.{fresh_claims_of}
use Rattle.frontier_levels.proofs.events.make_claims.Given as goal

abbrev pub invariant-loop-worker : goal.invariant-loop-worker
invariant-loop-worker l = l.forest ≡ record l.fn.forest { claims = l.fn.forest.claims ++ fresh_claims_of (take l.worker-index l.workers) }
