use Rattle.std.proofs.Common.{subst, sym}
use Rattle.board_seats.proofs.Numbered.{in_order}
use Rattle.claim_words.specs.Seat.{HoldsAllSeats}
use Rattle.claim_words.proofs.board.ClaimBoard.close_with.Goals as goal

pub close-requires : goal.close-requires
close-requires c = subst (HoldsAllSeats c.args.self) (sym c.in_ok-seats.ensures) (in_order c.args.self _ c.requires)
