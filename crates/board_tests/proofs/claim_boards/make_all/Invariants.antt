use Rattle.claim_words.specs.Seat.{IsSameSeat}
use Rattle.board_tests.proofs.claim_boards.make_all.Given as goal

abbrev pub invariant-loop-step : goal.invariant-loop-step
invariant-loop-step g l = IsSameSeat l.initial.zero l.zero × IsSameSeat l.initial.one l.one
