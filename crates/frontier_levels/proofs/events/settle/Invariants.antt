use Rattle.claim_words.specs.WorkerState.{settled}
use Rattle.frontier_levels.proofs.EventLemmas.{IsChangedTo}
use Rattle.frontier_levels.proofs.events.settle.Given as goal

abbrev pub invariant-loop-worker : goal.invariant-loop-worker
invariant-loop-worker l = IsChangedTo settled l.worker-index l.fn.workers l.workers
