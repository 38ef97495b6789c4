use Rattle.std.proofs.Common.{◌∙◌, ap, sym, subst}
use Rattle.bip_defs.specs.Forest.{State}
use Rattle.claim_words.specs.WorkerState.{fresh_claims_of, fresh_wins_of}
use Rattle.forest_core.specs.Events.{Runs}
use Rattle.sp_ids.specs.Events.{win_events}
use Rattle.frontier_levels.proofs.EventLemmas.{level_grows, level_runs, with_leaves}
use Rattle.frontier_levels.proofs.events.absorb.Goals as goal

pub make_claims-requires : goal.make_claims-requires
make_claims-requires c = (level_runs _ (fresh_claims_of c.args.workers.now) (fresh_wins_of c.args.workers.now) c.requires).0

pub make_wins-requires : goal.make_wins-requires
make_wins-requires c =
    let wins = (level_runs _ (fresh_claims_of c.args.workers.now) (fresh_wins_of c.args.workers.now) c.requires).1 in
    subst (λ (s : State). Runs s (win_events (fresh_wins_of c.args.workers.now)) (with_leaves s (fresh_wins_of c.args.workers.now))) (sym c.make_claims.ensures) wins

pub returns-clause-agree : goal.returns-clause-agree
returns-clause-agree c = λ b shows. c.settle.ensures.agree b _ _ shows

pub returns-clause-listed : goal.returns-clause-listed
returns-clause-listed c = λ b listed. c.settle.ensures.listed b _ _ listed

pub returns-clause-grown : goal.returns-clause-grown
returns-clause-grown c =
    let wins = fresh_wins_of c.args.workers.now in
    level_grows c.args.forest.now c.make_wins.new.forest c.args.workers.now c.claims_and_wins_grow.ensures.pairs c.requires (c.make_wins.ensures ∙ ap (λ (s : State). with_leaves s wins) c.make_claims.ensures)

pub returns-clause-on : goal.returns-clause-on
returns-clause-on c = λ r k.
    let wins = fresh_wins_of c.args.workers.now in
    c.claims_and_wins_grow.ensures.on r c.args.forest.now c.make_wins.new.forest k
    (level_grows c.args.forest.now c.make_wins.new.forest c.args.workers.now c.claims_and_wins_grow.ensures.pairs c.requires (c.make_wins.ensures ∙ ap (λ (s : State). with_leaves s wins) c.make_claims.ensures))
