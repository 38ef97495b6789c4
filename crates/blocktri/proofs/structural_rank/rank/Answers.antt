use Rattle.blocktri.proofs.MatchedLemmas.{given_rank}
use Rattle.blocktri.proofs.structural_rank.rank.Goals as goal

pub returns-in-Ok-clause-rank : goal.returns-in-Ok-clause-rank
returns-in-Ok-clause-rank g c = record {
  compressed = c.in_ok-check.ensures.right;
  holds = rw c.size.ensures.size (given_rank c.args.matrix.now c.in-Ok.matching.pairs c.in-Ok.ensures.maximum);
}
