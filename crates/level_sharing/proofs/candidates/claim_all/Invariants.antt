use Rattle.std.proofs.Common.{◌≡◌, take}
use Rattle.bip_defs.specs.Forest.{State}
use Rattle.bip_defs.specs.Lists.{Among}
use Rattle.level_sharing.specs.Candidates.{AreCandidates, IsDecided}
use Rattle.level_sharing.specs.Progress.{HasSettled, Progress}
use Rattle.level_sharing.specs.Shares.{Share}
use Rattle.level_sharing.specs.declared.candidate.Candidate.{Candidate}
use Rattle.level_sharing.proofs.candidates.claim_all.Given as goal

abbrev pub invariant-loop-candidate : goal.invariant-loop-candidate
invariant-loop-candidate l = record {
  seat : l.worker.seat.board ≡ l.fn.worker.seat.board;
  progress : (s : State) (own : Share) → AreCandidates s own l.candidates → Progress s own l.fn.worker l.worker;
  settled : (s : State) (own : Share) → AreCandidates s own l.candidates → HasSettled s l.fn.worker → HasSettled s l.worker;
  decided : (s : State) (own : Share) → AreCandidates s own l.candidates → (x : Candidate) → Among x (take l.candidate-index l.candidates) → IsDecided l.worker x.row x.root;
}
