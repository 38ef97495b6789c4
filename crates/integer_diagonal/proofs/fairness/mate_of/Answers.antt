use Rattle.bip_defs.proofs.Sets.{col_among}
use Rattle.integer_diagonal.proofs.FairnessLemmas.{mate_is}
use Rattle.integer_diagonal.proofs.fairness.mate_of.Goals as goal

pub returns-in-Some : goal.returns-in-Some
returns-in-Some c r h = mate_is c.args.matching.now.pairs c.in-Some.row r c.args.col c.number.result c.requires.distinct c.in-Some.ensures.found c.number.ensures h

pub returns-in-None : goal.returns-in-None
returns-in-None c r h = absurd (c.in-None.ensures.none (col_among r c.args.col c.args.matching.now.pairs h))
