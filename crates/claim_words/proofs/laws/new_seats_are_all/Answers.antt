use Rattle.board_seats.proofs.Numbered.{in_order, new_all, new_many}
use Rattle.claim_words.specs.Listed.{nothing}
use Rattle.claim_words.specs.Seat.{new_seats}
use Rattle.claim_words.proofs.SeatLemmas.{new_settle}
use Rattle.claim_words.proofs.laws.new_seats_are_all.Goals as goal

pub returns : goal.returns
returns c = record { all = new_all nothing; in_any_order = λ b seats some. in_order b (new_seats b seats) (new_all nothing b seats some); many = new_many nothing; words = new_settle }
