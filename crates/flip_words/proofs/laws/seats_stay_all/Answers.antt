use Rattle.board_seats.proofs.Numbered.{stay_all}
use Rattle.flip_words.proofs.laws.seats_stay_all.Goals as goal

pub returns : goal.returns
returns c b ss ts = stay_all b ss ts
