use Rattle.claim_words.specs.Seat.{IsSameSeat}
use Rattle.board_tests.proofs.claim_contest.claim_all.Given as goal

abbrev pub invariant-loop-row : goal.invariant-loop-row
invariant-loop-row l = IsSameSeat l.initial.seat l.seat
