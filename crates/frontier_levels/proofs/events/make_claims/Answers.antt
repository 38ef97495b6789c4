use Rattle.std.proofs.Common.{List, map, ℕ, sym, subst₂}
use Rattle.bip_defs.specs.Forest.{State}
use Rattle.claim_words.specs.WorkerState.{WorkerState}
use Rattle.forest_core.specs.Events.{Runs}
use Rattle.frontier_levels.proofs.EventLemmas.{by_claim, claim_event, more_claims, next_runs, no_claims, with_claims}
use Rattle.frontier_levels.proofs.events.make_claims.Goals as goal

pub make_claims_of-requires : goal.make_claims_of-requires
make_claims_of-requires c =
    let next = next_runs claim_event with_claims no_claims more_claims by_claim (λ (w : WorkerState). w.fresh_claims) _ _ c.args.workers.now c.loop-worker.worker-index c.worker-item.result _ c.requires c.loop-worker-test.true c.worker-item.is in
    subst₂ (λ (s : State) (ps : List (ℕ × ℕ)). Runs s (map claim_event ps) (with_claims s ps)) (sym c.loop-worker.invariant) (sym c.fresh_claims.ensures) next
