use Rattle.std.proofs.Common.{rules, ◌≡◌, ◌∙◌, true, false, None, Some, ap, sym, subst}
use Rattle.claim_words.specs.Answers.{leaf_before}
use Rattle.claim_words.specs.Listed.{row_word}
use Rattle.claim_words.specs.WorkerState.{WorkerState, work_after_claim, work_after_win}
use Rattle.level_sharing.specs.Candidates.{HasAdvanced}
use Rattle.level_sharing.specs.Progress.{HasSettled, KnowsHolder, KnowsLeaf}
use Rattle.level_sharing.proofs.ProgressLemmas.{advanced, both_settle, claim_settles, holder_claimed, holder_over_win, leaf_won, progress_both, progress_claim, progress_here, settled_look}
use Rattle.level_sharing.proofs.claims.claim_row.Goals as goal

pub returns-in_err-claim-clause-progress : goal.returns-in_err-claim-clause-progress
returns-in_err-claim-clause-progress c s own can =
    let e : c.claim.new.self ≡ c.args.worker.now = search rules in
    subst (λ w. HasAdvanced s own c.args.worker.now w) (sym e) (advanced s own c.args.worker.now c.args.worker.now (progress_here s own c.args.worker.now))

-- Another column holds the row.

pub returns-in-Held-clause-progress : goal.returns-in-Held-clause-progress
returns-in-Held-clause-progress c s own can =
    let e : c.claim.new.self ≡ work_after_claim c.args.worker.now c.args.candidate.row c.args.candidate.col (Some c.in-Held.field-0) = search rules in
    subst (λ w. HasAdvanced s own c.args.worker.now w) (sym e) (advanced s own c.args.worker.now _ (progress_claim s own c.args.worker.now c.args.candidate.row c.args.candidate.col (Some c.in-Held.field-0) can.is_own can.entry can.inside))

pub returns-in-Held-clause-settled : goal.returns-in-Held-clause-settled
returns-in-Held-clause-settled c s own can h =
    let e : c.claim.new.self ≡ work_after_claim c.args.worker.now c.args.candidate.row c.args.candidate.col (Some c.in-Held.field-0) = search rules in
    subst (λ w. HasSettled s w) (sym e) (settled_look s c.args.worker.now (row_word c.args.candidate.row (Some c.in-Held.field-0)) h)

pub returns-in-Held-clause-holder : goal.returns-in-Held-clause-holder
returns-in-Held-clause-holder c =
    let e : c.claim.new.self ≡ work_after_claim c.args.worker.now c.args.candidate.row c.args.candidate.col (Some c.in-Held.field-0) = search rules in
    subst (λ w. KnowsHolder w c.args.candidate.row) (sym e) (holder_claimed c.args.worker.now c.args.candidate.row c.args.candidate.col (Some c.in-Held.field-0))

-- The worker gets the row, which has a base mate.

pub returns-then-not-free-clause-progress : goal.returns-then-not-free-clause-progress
returns-then-not-free-clause-progress c s own can =
    let e : c.claim.new.self ≡ work_after_claim c.args.worker.now c.args.candidate.row c.args.candidate.col None = search rules in
    subst (λ w. HasAdvanced s own c.args.worker.now w) (sym e) (advanced s own c.args.worker.now _ (progress_claim s own c.args.worker.now c.args.candidate.row c.args.candidate.col None can.is_own can.entry can.inside))

pub returns-then-not-free-clause-settled : goal.returns-then-not-free-clause-settled
returns-then-not-free-clause-settled c s own can h =
    let e : c.claim.new.self ≡ work_after_claim c.args.worker.now c.args.candidate.row c.args.candidate.col None = search rules in
    let not_free : c.args.candidate.free ≡ false = search rules in
    subst (λ w. HasSettled s w) (sym e) (claim_settles s own c.args.worker.now c.args.candidate.row c.args.candidate.col c.args.candidate.root c.args.candidate.free can not_free h)

pub returns-then-not-free-clause-holder : goal.returns-then-not-free-clause-holder
returns-then-not-free-clause-holder c =
    let e : c.claim.new.self ≡ work_after_claim c.args.worker.now c.args.candidate.row c.args.candidate.col None = search rules in
    subst (λ w. KnowsHolder w c.args.candidate.row) (sym e) (holder_claimed c.args.worker.now c.args.candidate.row c.args.candidate.col None)

-- It gets a free row.

pub returns-in_err-win-in-Mine-clause-progress : goal.returns-in_err-win-in-Mine-clause-progress
returns-in_err-win-in-Mine-clause-progress c s own can =
    let e : c.claim.new.self ≡ work_after_claim c.args.worker.now c.args.candidate.row c.args.candidate.col None = search rules in
    let f : c.win.new.self ≡ c.claim.new.self = search rules in
    subst (λ w. HasAdvanced s own c.args.worker.now w) (sym (f ∙ e)) (advanced s own c.args.worker.now _ (progress_claim s own c.args.worker.now c.args.candidate.row c.args.candidate.col None can.is_own can.entry can.inside))

after_win : (c : goal.In_ok-win-in-Mine) → c.win.new.self ≡ work_after_win (work_after_claim c.args.worker.now c.args.candidate.row c.args.candidate.col None) c.args.candidate.root c.args.candidate.row (leaf_before c.in_ok-win-in-Mine.field-0)
after_win c =
    let e : c.claim.new.self ≡ work_after_claim c.args.worker.now c.args.candidate.row c.args.candidate.col None = search rules in
    c.in_ok-win-in-Mine.ensures.ok ∙ ap (λ (w : WorkerState). work_after_win w c.args.candidate.root c.args.candidate.row (leaf_before c.in_ok-win-in-Mine.field-0)) e

pub returns-in_ok-win-in-Mine-clause-progress : goal.returns-in_ok-win-in-Mine-clause-progress
returns-in_ok-win-in-Mine-clause-progress c s own can =
    let is_free : c.args.candidate.free ≡ true = search rules in
    subst (λ w. HasAdvanced s own c.args.worker.now w) (sym (after_win c)) (advanced s own c.args.worker.now _ (progress_both s own c.args.worker.now c.args.candidate.row c.args.candidate.col c.args.candidate.root c.args.candidate.free _ can is_free))

pub returns-in_ok-win-in-Mine-clause-settled : goal.returns-in_ok-win-in-Mine-clause-settled
returns-in_ok-win-in-Mine-clause-settled c s own can h =
    let is_free : c.args.candidate.free ≡ true = search rules in
    subst (λ w. HasSettled s w) (sym (after_win c)) (both_settle s own c.args.worker.now c.args.candidate.row c.args.candidate.col c.args.candidate.root c.args.candidate.free _ can is_free h)

pub returns-in_ok-win-in-Mine-clause-holder : goal.returns-in_ok-win-in-Mine-clause-holder
returns-in_ok-win-in-Mine-clause-holder c =
    let after = work_after_claim c.args.worker.now c.args.candidate.row c.args.candidate.col None in
    subst (λ w. KnowsHolder w c.args.candidate.row) (sym (after_win c)) (holder_over_win after c.args.candidate.root c.args.candidate.row c.args.candidate.row _ (holder_claimed c.args.worker.now c.args.candidate.row c.args.candidate.col None))

pub returns-in_ok-win-in-Mine-clause-leaf : goal.returns-in_ok-win-in-Mine-clause-leaf
returns-in_ok-win-in-Mine-clause-leaf c won =
    let after = work_after_claim c.args.worker.now c.args.candidate.row c.args.candidate.col None in
    subst (λ w. KnowsLeaf w c.args.candidate.root) (sym (after_win c)) (leaf_won after c.args.candidate.root c.args.candidate.row _)
