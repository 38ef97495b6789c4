use Rattle.blocktri.proofs.RankLaws.{no_perfect_below}
use Rattle.blocktri.proofs.laws.no_perfect_matching_is_below_full_rank.Goals as goal

pub returns : goal.returns
returns c = no_perfect_below
