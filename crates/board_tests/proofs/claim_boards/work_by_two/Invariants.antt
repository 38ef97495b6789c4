use Rattle.claim_words.specs.Seat.{IsSameSeat}
use Rattle.board_tests.proofs.claim_boards.work_by_two.Given as goal

abbrev pub invariant-loop-step : goal.invariant-loop-step
invariant-loop-step g l = IsSameSeat l.initial.zero.seat l.zero.seat × IsSameSeat l.initial.one.seat l.one.seat
