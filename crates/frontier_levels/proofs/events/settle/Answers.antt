use Rattle.std.proofs.Common.{List, sym, subst}
use Rattle.claim_words.specs.WorkerState.{WorkerState, settled}
use Rattle.level_sharing.specs.Agreement.{Agree}
use Rattle.frontier_levels.proofs.EventLemmas.{changed_all, changed_more}
use Rattle.frontier_levels.proofs.events.settle.Goals as goal

pub loop-worker-preserved : goal.loop-worker-preserved
loop-worker-preserved c = changed_more settled c.loop-worker.worker-index c.args.workers.now c.loop-worker.workers c.worker-item.result c.settle.new.self c.loop-worker.invariant c.loop-worker-test.true c.settle.ensures

pub returns-clause-agree : goal.returns-clause-agree
returns-clause-agree c = λ b claims leaves shows. subst (λ (ws : List WorkerState). Agree b ws claims leaves) (sym (changed_all settled c.loop-worker.worker-index c.args.workers.now c.loop-worker.workers c.loop-worker.invariant c.loop-worker-test.false))
    (c.settled_workers_agree.ensures.listed b c.args.workers.now claims leaves (c.settled_workers_agree.ensures.shown b c.args.workers.now claims leaves shows))

pub returns-clause-listed : goal.returns-clause-listed
returns-clause-listed c = λ b claims leaves listed. subst (λ (ws : List WorkerState). Agree b ws claims leaves) (sym (changed_all settled c.loop-worker.worker-index c.args.workers.now c.loop-worker.workers c.loop-worker.invariant c.loop-worker-test.false))
    (c.settled_workers_agree.ensures.listed b c.args.workers.now claims leaves listed)
