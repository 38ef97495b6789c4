use Rattle.std.proofs.Common.{◌∙◌, List, refl, sym, subst, inl, inr}
use Rattle.std.proofs.lemmas.List.{take_all}
use Rattle.bip_defs.specs.Lists.{Among}
use Rattle.bip_defs.proofs.Slices.{each_more, read_among}
use Rattle.level_sharing.specs.Candidates.{IsDecided}
use Rattle.level_sharing.specs.declared.candidate.Candidate.{Candidate}
use Rattle.level_sharing.proofs.CandidateLemmas.{decided_same}
use Rattle.level_sharing.proofs.ProgressLemmas.{advanced, decided_known, progress_here}
use Rattle.level_sharing.proofs.candidates.claim_all.Goals as goal

pub claim_one-requires-clause-range : goal.claim_one-requires-clause-range
claim_one-requires-clause-range c = c.requires.on_board c.candidate-item.result (read_among c.candidate-item.result c.args.candidates.now c.loop-candidate.candidate-index c.loop-candidate-test.true c.candidate-item.is)

pub returns-in_err-claim_one-clause-progress : goal.returns-in_err-claim_one-clause-progress
returns-in_err-claim_one-clause-progress c s own all =
    let listed = read_among c.candidate-item.result c.args.candidates.now c.loop-candidate.candidate-index c.loop-candidate-test.true c.candidate-item.is in
    advanced s own c.args.worker.now c.claim_one.new.worker ((c.claim_one.ensures.progress s own (all c.candidate-item.result listed)).goes_on c.args.worker.now (c.loop-candidate.invariant.progress s own all))

pub loop-candidate-preserved : goal.loop-candidate-preserved
loop-candidate-preserved c =
    let listed = read_among c.candidate-item.result c.args.candidates.now c.loop-candidate.candidate-index c.loop-candidate-test.true c.candidate-item.is in record {
      seat = c.claim_one.ensures.seat ∙ c.loop-candidate.invariant.seat;
      progress = λ s own all. (c.claim_one.ensures.progress s own (all c.candidate-item.result listed)).goes_on c.args.worker.now (c.loop-candidate.invariant.progress s own all);
      settled = λ s own all h. c.in_ok-claim_one.ensures.settled s own (all c.candidate-item.result listed) (c.loop-candidate.invariant.settled s own all h);
      decided = λ s own all. each_more (λ (x : Candidate). IsDecided c.claim_one.new.worker x.row x.root) c.args.candidates.now c.loop-candidate.candidate-index c.candidate-item.result c.loop-candidate-test.true c.candidate-item.is
          (λ x m. (c.claim_one.ensures.progress s own (all c.candidate-item.result listed)).remembers.decided x.row x.root (c.loop-candidate.invariant.decided s own all x m))
          c.in_ok-claim_one.ensures.decided;
    }

pub returns-clause-progress : goal.returns-clause-progress
returns-clause-progress c s own all = advanced s own c.args.worker.now c.loop-candidate.worker (c.loop-candidate.invariant.progress s own all)

pub loop-candidate-init : goal.loop-candidate-init
loop-candidate-init c = record { seat = refl; progress = λ s own all. progress_here s own c.args.worker.now; settled = λ s own all h. h; decided = λ s own all x m. absurd m }

pub returns-clause-decided : goal.returns-clause-decided
returns-clause-decided c s own all row root (inl had) = decided_known s own c.args.worker.now c.loop-candidate.worker row root (c.loop-candidate.invariant.progress s own all) had
returns-clause-decided c s own all row root (inr (x, m, e, f)) = decided_same c.loop-candidate.worker x.row x.root row root e f
    (c.loop-candidate.invariant.decided s own all x (subst (λ (l : List Candidate). Among x l) (sym (take_all c.loop-candidate.candidate-index c.args.candidates.now c.loop-candidate-test.false)) m))
