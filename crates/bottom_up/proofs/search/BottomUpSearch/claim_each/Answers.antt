use Rattle.std.proofs.Common.{◌∙◌, List, sym, subst}
use Rattle.std.proofs.lemmas.List.{take_all}
use Rattle.bip_defs.specs.Lists.{Among}
use Rattle.bip_defs.proofs.Slices.{each_more, read_among}
use Rattle.level_sharing.specs.Progress.{IsThroughRow}
use Rattle.level_sharing.specs.Shares.{of_rows}
use Rattle.level_sharing.specs.declared.candidate.Candidate.{Candidate}
use Rattle.bottom_up.proofs.CandidateLemmas.{covered_through}
use Rattle.bottom_up.proofs.search.BottomUpSearch.claim_each.Goals as goal

pub claim-requires-clause-candidate : goal.claim-requires-clause-candidate
claim-requires-clause-candidate c = (c.requires.gathered.each c.candidate-item.result (read_among c.candidate-item.result c.args.candidates.now c.loop-candidate.candidate-index c.loop-candidate-test.true c.candidate-item.is)).1

pub returns-in_err-claim-clause-progress : goal.returns-in_err-claim-clause-progress
returns-in_err-claim-clause-progress c =
    let own = (c.requires.gathered.each c.candidate-item.result (read_among c.candidate-item.result c.args.candidates.now c.loop-candidate.candidate-index c.loop-candidate-test.true c.candidate-item.is)).0 in
    λ u p. c.claim.ensures.progress (of_rows c.args.self.now.free.now) (λ d. own) u (c.loop-candidate.invariant.progress u p)

pub returns-in_err-claim-clause-seat : goal.returns-in_err-claim-clause-seat
returns-in_err-claim-clause-seat c = c.claim.ensures.stays.seat ∙ c.loop-candidate.invariant.seat

pub loop-candidate-preserved : goal.loop-candidate-preserved
loop-candidate-preserved c =
    let own = (c.requires.gathered.each c.candidate-item.result (read_among c.candidate-item.result c.args.candidates.now c.loop-candidate.candidate-index c.loop-candidate-test.true c.candidate-item.is)).0 in
    record {
      seat = c.claim.ensures.stays.seat ∙ c.loop-candidate.invariant.seat;
      settled = c.in_ok-claim.ensures.settled;
      rows = λ r t. c.claim.ensures.stays.rows r (c.loop-candidate.invariant.rows r t);
      progress = λ u p. c.claim.ensures.progress (of_rows c.args.self.now.free.now) (λ d. own) u (c.loop-candidate.invariant.progress u p);
      through = each_more (λ (x : Candidate). IsThroughRow c.args.self.now.forest.now c.claim.new.worker x.row) c.args.candidates.now c.loop-candidate.candidate-index c.candidate-item.result c.loop-candidate-test.true c.candidate-item.is
          (λ x m. c.claim.ensures.stays.rows x.row (c.loop-candidate.invariant.through x m)) c.in_ok-claim.ensures.through;
    }

pub returns-clause-through : goal.returns-clause-through
returns-clause-through c = covered_through c.args.self.now.forest.now c.args.worker.now c.loop-candidate.worker c.args.candidates.now c.loop-candidate.invariant.rows
    (λ x m. c.loop-candidate.invariant.through x (subst (λ (l : List Candidate). Among x l) (sym (take_all c.loop-candidate.candidate-index c.args.candidates.now c.loop-candidate-test.false)) m))
