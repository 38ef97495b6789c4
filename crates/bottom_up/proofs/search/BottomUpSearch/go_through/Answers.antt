use Rattle.std.proofs.Common.{List, subst, sym}
use Rattle.std.proofs.lemmas.List.{take_all}
use Rattle.bip_defs.specs.Lists.{Among}
use Rattle.bip_defs.proofs.Results.{ok_both}
use Rattle.bip_defs.proofs.Slices.{each_more, read_among}
use Rattle.bottom_up.specs.Candidates.{IsCoveredRow}
use Rattle.bottom_up.specs.Candidates.{HasGatheredRows}
use Rattle.level_sharing.specs.declared.candidate.Candidate.{Candidate}
use Rattle.bottom_up.proofs.search.BottomUpSearch.go_through.Goals as goal

pub gather-requires-clause-row : goal.gather-requires-clause-row
gather-requires-clause-row c = read_among _ _ _ c.loop-row-test.true c.row-item.is

pub returns-in_err-gather-clause-progress : goal.returns-in_err-gather-clause-progress
returns-in_err-gather-clause-progress c = λ u p. c.gather.ensures.progress u (c.loop-row.invariant.progress u p)

pub loop-row-preserved : goal.loop-row-preserved
loop-row-preserved c =
    let step = c.in_ok-gather.ensures in
    record {
      progress = λ u p. step.progress u (c.loop-row.invariant.progress u p);
      gathered = step.gathered;
      covered = each_more (λ r. IsCoveredRow c.args.self.now.forest.now c.gather.new.worker c.gather.new.candidates.items r) c.args.self.now.free.now c.loop-row.row-index c.row-item.result c.loop-row-test.true c.row-item.is
          (λ r h. step.stays r (c.loop-row.invariant.covered r h)) step.row;
    }

pub claim_each-requires : goal.claim_each-requires
claim_each-requires c = record {
  gathered = subst (λ (l : List Candidate). HasGatheredRows c.args.self.now.forest.now c.args.self.now.board.now c.args.self.now.free.now c.loop-row.worker l) (sym c.as_slice.ensures.value) c.loop-row.invariant.gathered;
}

pub returns-clause-progress : goal.returns-clause-progress
returns-clause-progress c = λ u p. c.claim_each.ensures.progress u (c.loop-row.invariant.progress u p)

pub returns-clause-through : goal.returns-clause-through
returns-clause-through c = ok_both c.claim_each.result
    (λ settled through. record {
      settled = settled;
      rows = λ r h. through r (subst (λ (l : List Candidate). IsCoveredRow c.args.self.now.forest.now c.loop-row.worker l r) (sym c.as_slice.ensures.value) (c.loop-row.invariant.covered r (subst (Among r) (sym (take_all _ _ c.loop-row-test.false)) h)));
    })
    c.claim_each.ensures.settled c.claim_each.ensures.through
