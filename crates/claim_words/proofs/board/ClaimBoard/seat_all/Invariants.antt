use Rattle.std.proofs.Common.{◌≡◌, ◌+◌}
use Rattle.claim_words.specs.Listed.{nothing}
use Rattle.claim_words.specs.Seat.{first_seat, more_seats}
use Rattle.claim_words.proofs.board.ClaimBoard.seat_all.Given as goal

-- the seats so far are all but the seat 0, which has their count
abbrev pub invariant-loop-made : goal.invariant-loop-made
invariant-loop-made l = record {
  first : l.first ≡ first_seat l.self (1 + l.made) nothing;
  others : l.seats.items ≡ more_seats l.self 1 l.made;
}
