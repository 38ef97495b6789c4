use Rattle.std.proofs.Common.{ℕ, List, sym, subst}
use Rattle.std.proofs.lemmas.List.{take_all}
use Rattle.bip_defs.specs.Lists.{Among}
use Rattle.bip_defs.proofs.Results.{ok_both}
use Rattle.bip_defs.proofs.Slices.{each_more, read_among}
use Rattle.frontier_levels.specs.TopDownSearch.{IsCoveredColumn}
use Rattle.level_sharing.specs.Candidates.{AreCandidates, AreOnBoard}
use Rattle.level_sharing.specs.Shares.{by_columns}
use Rattle.level_sharing.specs.declared.candidate.Candidate.{Candidate}
use Rattle.frontier_levels.proofs.SearchLemmas.{column_stays, through_column}
use Rattle.frontier_levels.proofs.search.TopDownSearch.run.Goals as goal

pub gather-requires-clause-col : goal.gather-requires-clause-col
gather-requires-clause-col c = read_among c.col-item.result c.args.self.now.share.now c.loop-col.col-index c.loop-col-test.true c.col-item.is

pub loop-col-preserved : goal.loop-col-preserved
loop-col-preserved c =
    let s = c.args.self.now.forest.now in
    let own = by_columns c.args.self.now.share.now in
    let step = c.in_ok-gather.ensures in record {
      progress = λ u p. step.progress u (c.loop-col.invariant.progress u p);
      gathered = step.gathered;
      columns = each_more (λ d. IsCoveredColumn s c.gather.new.worker c.gather.new.candidates.items d) c.args.self.now.share.now c.loop-col.col-index c.col-item.result c.loop-col-test.true c.col-item.is
          (λ d m. column_stays s c.loop-col.worker c.gather.new.worker c.loop-col.candidates.items c.gather.new.candidates.items d step.stays (c.loop-col.invariant.columns d m))
          step.column;
    }

pub claim_all-requires-clause-on_board : goal.claim_all-requires-clause-on_board
claim_all-requires-clause-on_board c = subst (λ (l : List Candidate). AreOnBoard c.args.self.now.board.now l) (sym c.as_slice.ensures.value) (λ x m. (c.loop-col.invariant.gathered.each x m).1)

pub returns-clause-progress : goal.returns-clause-progress
returns-clause-progress c =
    let s = c.args.self.now.forest.now in
    let own = by_columns c.args.self.now.share.now in
    let all = subst (λ (l : List Candidate). AreCandidates s own l) (sym c.as_slice.ensures.value) (λ x m. (c.loop-col.invariant.gathered.each x m).0) in
    λ u p. (c.claim_all.ensures.progress s own all).goes_on u (c.loop-col.invariant.progress u p)

pub returns-clause-through : goal.returns-clause-through
returns-clause-through c =
    let s = c.args.self.now.forest.now in
    let own = by_columns c.args.self.now.share.now in
    let all = subst (λ (l : List Candidate). AreCandidates s own l) (sym c.as_slice.ensures.value) (λ x m. (c.loop-col.invariant.gathered.each x m).0) in
    ok_both c.claim_all.result
    (λ settled decided. record {
      settled = settled s own all c.loop-col.invariant.gathered.settled;
      columns = λ d m. through_column s c.loop-col.worker c.claim_all.new.worker c.as_slice.result.now d
          (c.claim_all.ensures.progress s own all).remembers.leaf
          (decided s own all)
          (subst (λ (l : List Candidate). IsCoveredColumn s c.loop-col.worker l d) (sym c.as_slice.ensures.value)
          (c.loop-col.invariant.columns d (subst (λ (l : List ℕ). Among d l) (sym (take_all c.loop-col.col-index c.args.self.now.share.now c.loop-col-test.false)) m)));
    })
    c.claim_all.ensures.settled c.claim_all.ensures.decided
