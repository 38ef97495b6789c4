use Rattle.board_seats.proofs.Numbered.{few_of_counted}
use Rattle.sp_ids.specs.Limits.{max_workers}
use Rattle.flip_words.proofs.seats.seats_are_few.Goals as goal

pub returns : goal.returns
returns c = λ b all. few_of_counted max_workers _ all c.count_few.ensures
