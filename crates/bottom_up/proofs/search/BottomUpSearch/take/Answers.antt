use Rattle.std.proofs.Common.{[], ◌∷◌, inl, refl}
use Rattle.level_sharing.specs.Shares.{of_rows}
use Rattle.bottom_up.proofs.CandidateLemmas.{may_claim}
use Rattle.bottom_up.proofs.SearchLemmas.{step_stays}
use Rattle.bottom_up.proofs.search.BottomUpSearch.take.Goals as goal

pub returns-clause-progress : goal.returns-clause-progress
returns-clause-progress c = λ own mine. (c.claim_row.ensures.progress c.args.self.now.forest.now own (may_claim c.args.self.now.forest.now own c.args.candidate (mine c.args.candidate.col) c.requires.candidate)).goes_on

pub returns-in_err-claim_row-clause-progress : goal.returns-in_err-claim_row-clause-progress
returns-in_err-claim_row-clause-progress c = λ own mine. (c.claim_row.ensures.progress c.args.self.now.forest.now own (may_claim c.args.self.now.forest.now own c.args.candidate (mine c.args.candidate.col) c.requires.candidate)).goes_on

pub returns-clause-stays : goal.returns-clause-stays
returns-clause-stays c =
    let own = of_rows (c.args.candidate.row ∷ []) in
    step_stays _ own _ _ c.claim_row.ensures.seat (c.claim_row.ensures.progress c.args.self.now.forest.now own (may_claim c.args.self.now.forest.now own c.args.candidate (inl refl) c.requires.candidate))

pub returns-in_err-claim_row-clause-stays : goal.returns-in_err-claim_row-clause-stays
returns-in_err-claim_row-clause-stays c =
    let own = of_rows (c.args.candidate.row ∷ []) in
    step_stays _ own _ _ c.claim_row.ensures.seat (c.claim_row.ensures.progress c.args.self.now.forest.now own (may_claim c.args.self.now.forest.now own c.args.candidate (inl refl) c.requires.candidate))

pub returns-clause-settled : goal.returns-clause-settled
returns-clause-settled c =
    let own = of_rows (c.args.candidate.row ∷ []) in
    c.in_ok-claim_row.ensures.settled c.args.self.now.forest.now own (may_claim c.args.self.now.forest.now own c.args.candidate (inl refl) c.requires.candidate) c.requires.settled
