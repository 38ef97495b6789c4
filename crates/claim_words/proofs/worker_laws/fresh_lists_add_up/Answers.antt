use Rattle.std.proofs.Common.{refl}
use Rattle.claim_words.specs.Listed.{Listed}
use Rattle.claim_words.specs.WorkerState.{WorkerState}
use Rattle.claim_words.proofs.WorkerLemmas.{times_grow}
use Rattle.claim_words.proofs.worker_laws.fresh_lists_add_up.Goals as goal

pub returns : goal.returns
returns c = record {
  claims = times_grow (λ (l : Listed). l.claims) (λ (w : WorkerState). w.fresh_claims) (λ l m. refl) (λ w l. refl);
  wins = times_grow (λ (l : Listed). l.wins) (λ (w : WorkerState). w.fresh_wins) (λ l m. refl) (λ w l. refl);
}
