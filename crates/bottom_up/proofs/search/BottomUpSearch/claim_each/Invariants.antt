use Rattle.std.proofs.Common.{◌≡◌, ℕ, take}
use Rattle.bip_defs.specs.Lists.{Among}
use Rattle.bottom_up.specs.Candidates.{Advances}
use Rattle.level_sharing.specs.Progress.{HasSettled, IsThroughRow}
use Rattle.level_sharing.specs.declared.candidate.Candidate.{Candidate}
use Rattle.bottom_up.proofs.search.BottomUpSearch.claim_each.Given as goal

abbrev pub invariant-loop-candidate : goal.invariant-loop-candidate
invariant-loop-candidate l = record {
  seat : l.worker.seat.board ≡ l.self.board.now;
  settled : HasSettled l.self.forest.now l.worker;
  rows : (r : ℕ) → IsThroughRow l.self.forest.now l.fn.worker r → IsThroughRow l.self.forest.now l.worker r;
  progress : Advances l.self.forest.now l.self.free.now l.fn.worker l.worker;
  through : (x : Candidate) → Among x (take l.candidate-index l.candidates) → IsThroughRow l.self.forest.now l.worker x.row;
}
