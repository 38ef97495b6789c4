use Rattle.claim_words.proofs.WorkerLemmas as worker
use Rattle.claim_words.proofs.worker_laws.seats_stay.Goals as goal

pub returns : goal.returns
returns c = record {
  seated = worker.seated_seats;
  seated_claims = worker.seated_claims;
  seated_wins = worker.seated_wins;
  settled = worker.settled_seats;
  settled_claims = worker.settled_claims;
  settled_wins = worker.settled_wins;
}
