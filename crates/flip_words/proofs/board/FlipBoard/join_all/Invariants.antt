use Rattle.flip_words.specs.ClosedBoards.{gathered}
use Rattle.flip_words.proofs.Finished.{IsJoined}
use Rattle.flip_words.proofs.board.FlipBoard.join_all.Given as goal

abbrev pub invariant-loop-last : goal.invariant-loop-last
invariant-loop-last l = IsJoined l.self (gathered l.fn.seats.items) l.seats.items l.first

abbrev pub decreases-loop-last : goal.decreases-loop-last
decreases-loop-last l = goal.left-loop-last l
