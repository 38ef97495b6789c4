use Rattle.claim_words.proofs.WorkerLemmas as worker
use Rattle.claim_words.proofs.worker_laws.fresh_lists_join.Goals as goal

pub returns : goal.returns
returns c = record { claims = worker.claims_join; wins = worker.wins_join; same_claims = worker.claims_same; same_wins = worker.wins_same }
