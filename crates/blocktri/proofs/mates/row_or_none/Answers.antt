use Rattle.blocktri.proofs.WriteLemmas.{no_row, some_row}
use Rattle.blocktri.proofs.mates.row_or_none.Goals as goal

pub returns-in-Some : goal.returns-in-Some
returns-in-Some c = rw c.row.view_is (some_row c.args.matching.now c.in-Some.row c.args.col c.requires.few c.is_matching.ensures c.in-Some.ensures.found)

pub returns-in-None : goal.returns-in-None
returns-in-None c = no_row c.args.matching.now c.args.col c.in-None.ensures.none
