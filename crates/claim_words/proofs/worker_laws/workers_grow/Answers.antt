use Rattle.claim_words.proofs.WorkerLemmas as worker
use Rattle.claim_words.proofs.worker_laws.workers_grow.Goals as goal

pub returns : goal.returns
returns c = record { here = worker.grow_here; on = worker.grow_on; both = worker.grow_both; many = worker.grow_many; all = worker.grow_all }
