use Rattle.std.proofs.Common.{List, map, ℕ, sym, subst₂}
use Rattle.bip_defs.specs.Forest.{State}
use Rattle.claim_words.specs.WorkerState.{WorkerState}
use Rattle.forest_core.specs.Events.{Runs}
use Rattle.frontier_levels.proofs.EventLemmas.{by_win, more_leaves, next_runs, no_leaves, win_event, with_leaves}
use Rattle.frontier_levels.proofs.events.make_wins.Goals as goal

pub make_wins_of-requires : goal.make_wins_of-requires
make_wins_of-requires c =
    let next = next_runs win_event with_leaves no_leaves more_leaves by_win (λ (w : WorkerState). w.fresh_wins) _ _ c.args.workers.now c.loop-worker.worker-index c.worker-item.result _ c.requires c.loop-worker-test.true c.worker-item.is in
    subst₂ (λ (s : State) (ps : List (ℕ × ℕ)). Runs s (map win_event ps) (with_leaves s ps)) (sym c.loop-worker.invariant) (sym c.fresh_wins.ensures) next
