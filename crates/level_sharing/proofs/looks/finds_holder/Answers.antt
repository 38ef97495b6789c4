use Rattle.std.proofs.Common.{◌∙◌, Option, ℕ, ap, sym, subst}
use Rattle.claim_words.specs.Listed.{row_word}
use Rattle.claim_words.specs.WorkerState.{WorkerState, work_after_look}
use Rattle.level_sharing.specs.Progress.{HasSettled, KnowsHolder, Progress}
use Rattle.level_sharing.proofs.ProgressLemmas.{advanced, holder_seen, if_found, progress_look, settled_look}
use Rattle.level_sharing.proofs.looks.finds_holder.Goals as goal

pub returns-clause-progress : goal.returns-clause-progress
returns-clause-progress c = λ s own. advanced s own c.args.worker.now c.look_row.new.self (subst (λ (w : WorkerState). Progress s own c.args.worker.now w) (sym c.look_row.ensures.worker) (progress_look s own c.args.worker.now (row_word c.args.row c.look_row.result)))

pub returns-clause-settled : goal.returns-clause-settled
returns-clause-settled c = λ s h. subst (HasSettled s) (sym c.look_row.ensures.worker) (settled_look s c.args.worker.now (row_word c.args.row c.look_row.result) h)

pub returns-clause-holder : goal.returns-clause-holder
returns-clause-holder c = λ found. if_found c.look_row.result (sym c.is_some.ensures ∙ found) (λ x e.
    let after = c.look_row.ensures.worker ∙ ap (λ (o : Option ℕ). work_after_look c.args.worker.now (row_word c.args.row o)) e in
    subst (λ (w : WorkerState). KnowsHolder w c.args.row) (sym after) (holder_seen c.args.worker.now c.args.row x))
