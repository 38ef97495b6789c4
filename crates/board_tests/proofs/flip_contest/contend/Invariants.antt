use Rattle.board_tests.specs.FlipContest.{HasVisited}
use Rattle.flip_words.specs.Seat.{IsSameSeat}
use Rattle.board_tests.proofs.flip_contest.contend.Given as goal

pub record invariant-loop-tree (l : goal.Live-loop-tree) : Type 0 where
  pub same : IsSameSeat l.fn.seat l.seat
  pub visited : HasVisited l.board l.tree l.seat
