use Rattle.board_seats.proofs.Numbered.{in_order}
use Rattle.flip_words.proofs.laws.seats_in_order_are_all.Goals as goal

pub returns : goal.returns
returns c b ss = in_order b ss
