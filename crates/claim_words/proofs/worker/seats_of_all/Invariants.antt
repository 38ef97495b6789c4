use Rattle.std.proofs.Common.{◌≡◌}
use Rattle.claim_words.specs.WorkerState.{seats_of}
use Rattle.claim_words.proofs.worker.seats_of_all.Given as goal

abbrev pub invariant-loop-worker : goal.invariant-loop-worker
invariant-loop-worker l = l.seats.items ≡ seats_of l.yielded
