use Rattle.std.proofs.Common.{◌≡◌, ◌+◌, length}
use Rattle.claim_words.specs.Listed.{all_listed, followed_by}
use Rattle.claim_words.specs.Seat.{AreNumbered, first_seat, gathered, lists_of}
use Rattle.claim_words.proofs.board.ClaimBoard.join_all.Given as goal

-- the seats that are left have the numbers below the count, and the lists of all seats stay together
abbrev pub invariant-loop-last : goal.invariant-loop-last
invariant-loop-last l = record {
  first : l.first ≡ first_seat l.self (1 + length l.seats.items) l.first.listed;
  others : AreNumbered l.self 1 l.seats.items;
  same : followed_by (all_listed (lists_of l.seats.items)) l.first.listed ≡ gathered l.fn.seats.items;
}

abbrev pub decreases-loop-last : goal.decreases-loop-last
decreases-loop-last l = goal.left-loop-last l
