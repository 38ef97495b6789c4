use Rattle.std.proofs.Common.{◌∙◌, List, sym, subst, inl}
use Rattle.frontier_levels.specs.TopDownSearch.{HasGatheredIn, StaysCovered}
use Rattle.level_sharing.specs.Candidates.{AreCandidates, AreOnBoard}
use Rattle.level_sharing.specs.Shares.{by_columns}
use Rattle.level_sharing.specs.declared.candidate.Candidate.{Candidate}
use Rattle.frontier_levels.proofs.search.TopDownSearch.make_room.Goals as goal

pub claim_all-requires-clause-on_board : goal.claim_all-requires-clause-on_board
claim_all-requires-clause-on_board c = subst (λ (l : List Candidate). AreOnBoard c.args.self.now.board.now l) (sym c.as_slice.ensures.value) (λ x m. (c.requires.gathered.each x m).1)

pub returns-in_err-claim_all-clause-progress : goal.returns-in_err-claim_all-clause-progress
returns-in_err-claim_all-clause-progress c =
    let s = c.args.self.now.forest.now in
    let own = by_columns c.args.self.now.share.now in
    (c.claim_all.ensures.progress s own (subst (λ (l : List Candidate). AreCandidates s own l) (sym c.as_slice.ensures.value) (λ x m. (c.requires.gathered.each x m).0))).goes_on

pub returns-in_ok-claim_all-clause-progress : goal.returns-in_ok-claim_all-clause-progress
returns-in_ok-claim_all-clause-progress c =
    let s = c.args.self.now.forest.now in
    let own = by_columns c.args.self.now.share.now in
    (c.claim_all.ensures.progress s own (subst (λ (l : List Candidate). AreCandidates s own l) (sym c.as_slice.ensures.value) (λ x m. (c.requires.gathered.each x m).0))).goes_on

pub returns-in_ok-claim_all-clause-gathered : goal.returns-in_ok-claim_all-clause-gathered
returns-in_ok-claim_all-clause-gathered c =
    let s = c.args.self.now.forest.now in
    let own = by_columns c.args.self.now.share.now in
    let all = subst (λ (l : List Candidate). AreCandidates s own l) (sym c.as_slice.ensures.value) (λ x m. (c.requires.gathered.each x m).0) in
    subst (λ (l : List Candidate). HasGatheredIn c.args.self.now c.claim_all.new.worker l) (sym c.clear.ensures)
    (record { seat = c.claim_all.ensures.seat ∙ c.requires.gathered.seat; settled = c.in_ok-claim_all.ensures.settled s own all c.requires.gathered.settled; each = λ x m. absurd m })

pub returns-in_ok-claim_all-clause-stays : goal.returns-in_ok-claim_all-clause-stays
returns-in_ok-claim_all-clause-stays c =
    let s = c.args.self.now.forest.now in
    let own = by_columns c.args.self.now.share.now in
    let all = subst (λ (l : List Candidate). AreCandidates s own l) (sym c.as_slice.ensures.value) (λ x m. (c.requires.gathered.each x m).0) in
    subst (λ (l : List Candidate). StaysCovered c.args.worker.now l c.claim_all.new.worker c.clear.new.self.items) c.as_slice.ensures.value
    (record { leaf = (c.claim_all.ensures.progress s own all).remembers.leaf; covered = λ row root covered. inl (c.in_ok-claim_all.ensures.decided s own all row root covered) })
