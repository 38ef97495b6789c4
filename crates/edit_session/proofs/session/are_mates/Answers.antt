use Rattle.edit_session.proofs.SessionLemmas.{are_mates, no_mates}
use Rattle.edit_session.proofs.session.are_mates.Goals as goal

pub returns-in-Some : goal.returns-in-Some
returns-in-Some c = rw (c.mate.view_is, c.row.view_is) (are_mates c.args.matching.now.pairs c.in-Some.mate c.args.row c.args.col c.requires.cols_differ c.in-Some.ensures.found)

pub returns-in-None : goal.returns-in-None
returns-in-None c = no_mates c.args.matching.now.pairs c.args.row c.args.col c.in-None.ensures.none
