use Rattle.flip_words.proofs.SeatLaws.{one_taker_each}
use Rattle.flip_words.proofs.laws.each_tree_has_one_taker.Goals as goal

pub returns : goal.returns
returns c b m ss all settles = one_taker_each b m ss settles all
