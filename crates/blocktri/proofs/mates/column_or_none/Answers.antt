use Rattle.blocktri.proofs.MatchedLemmas.{no_col, some_col}
use Rattle.blocktri.proofs.mates.column_or_none.Goals as goal

pub returns-in-Some : goal.returns-in-Some
returns-in-Some c = rw c.col.view_is (some_col c.args.matching.now c.args.row c.in-Some.col c.requires.few c.is_matching.ensures c.in-Some.ensures.found)

pub returns-in-None : goal.returns-in-None
returns-in-None c = no_col c.args.matching.now c.args.row c.in-None.ensures.none
