use Rattle.claim_words.specs.Seat.{IsSameSeat}
use Rattle.board_tests.proofs.claim_contest.roots_agree.Given as goal

abbrev pub invariant-loop-root : goal.invariant-loop-root
invariant-loop-root l = IsSameSeat l.initial.seat l.seat
