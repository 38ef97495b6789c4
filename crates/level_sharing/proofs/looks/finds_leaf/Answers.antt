use Rattle.std.proofs.Common.{◌∙◌, Option, ℕ, ap, sym, subst}
use Rattle.claim_words.specs.Listed.{root_word}
use Rattle.claim_words.specs.WorkerState.{WorkerState, work_after_look}
use Rattle.level_sharing.specs.Progress.{HasSettled, KnowsLeaf, Progress}
use Rattle.level_sharing.proofs.ProgressLemmas.{advanced, if_found, leaf_seen, progress_look, settled_look}
use Rattle.level_sharing.proofs.looks.finds_leaf.Goals as goal

pub returns-clause-progress : goal.returns-clause-progress
returns-clause-progress c = λ s own. advanced s own c.args.worker.now c.look_root.new.self (subst (λ (w : WorkerState). Progress s own c.args.worker.now w) (sym c.look_root.ensures.worker) (progress_look s own c.args.worker.now (root_word c.args.root c.look_root.result)))

pub returns-clause-settled : goal.returns-clause-settled
returns-clause-settled c = λ s h. subst (HasSettled s) (sym c.look_root.ensures.worker) (settled_look s c.args.worker.now (root_word c.args.root c.look_root.result) h)

pub returns-clause-leaf : goal.returns-clause-leaf
returns-clause-leaf c = λ found. if_found c.look_root.result (sym c.is_some.ensures ∙ found) (λ x e.
    let after = c.look_root.ensures.worker ∙ ap (λ (o : Option ℕ). work_after_look c.args.worker.now (root_word c.args.root o)) e in
    subst (λ (w : WorkerState). KnowsLeaf w c.args.root) (sym after) (leaf_seen c.args.worker.now c.args.root x))
