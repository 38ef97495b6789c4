use Rattle.level_sharing.proofs.ProgressLemmas.{advanced, progress_on}
use Rattle.level_sharing.proofs.candidates.claim_one.Goals as goal

pub returns-in_err-claim_row-clause-progress : goal.returns-in_err-claim_row-clause-progress
returns-in_err-claim_row-clause-progress c = λ s own can. advanced s own _ _ (progress_on s own _ _ _ (c.finds_leaf.ensures.progress s own).progress (c.claim_row.ensures.progress s own can).progress)

pub returns-in_ok-claim_row-clause-progress : goal.returns-in_ok-claim_row-clause-progress
returns-in_ok-claim_row-clause-progress c = λ s own can. advanced s own _ _ (progress_on s own _ _ _ (c.finds_leaf.ensures.progress s own).progress (c.claim_row.ensures.progress s own can).progress)

pub returns-in_ok-claim_row-clause-settled : goal.returns-in_ok-claim_row-clause-settled
returns-in_ok-claim_row-clause-settled c = λ s own can h. c.in_ok-claim_row.ensures.settled s own can (c.finds_leaf.ensures.settled s h)

pub returns-else-not-finds_leaf-clause-settled : goal.returns-else-not-finds_leaf-clause-settled
returns-else-not-finds_leaf-clause-settled c = λ s own can h. c.finds_leaf.ensures.settled s h

pub returns-else-not-finds_leaf-clause-progress : goal.returns-else-not-finds_leaf-clause-progress
returns-else-not-finds_leaf-clause-progress c = λ s own can. c.finds_leaf.ensures.progress s own
