use Rattle.claim_words.specs.Seat.{IsSameSeat}
use Rattle.board_tests.proofs.claim_contest.rows_agree.Given as goal

abbrev pub invariant-loop-row : goal.invariant-loop-row
invariant-loop-row l = IsSameSeat l.initial.seat l.seat
