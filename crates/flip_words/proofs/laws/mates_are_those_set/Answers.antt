use Rattle.flip_words.proofs.SeatLaws.{mates_after}
use Rattle.flip_words.proofs.laws.mates_are_those_set.Goals as goal

pub returns : goal.returns
returns c b m ss settles = mates_after b m ss settles
