use Rattle.board_seats.proofs.Numbered.{in_order, new_all, new_many}
use Rattle.flip_words.specs.Listed.{nothing}
use Rattle.flip_words.specs.Seat.{new_seats}
use Rattle.flip_words.proofs.laws.new_seats_are_all.Goals as goal

pub returns : goal.returns
returns c = record { all = new_all nothing; in_any_order = λ b count some. in_order b (new_seats b count) (new_all nothing b count some); many = new_many nothing }
