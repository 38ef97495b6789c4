use Rattle.bip_defs.proofs.Covers.{straight_covers}
use Rattle.pothen_fan.proofs.Phases.{straight_longer}
use Rattle.pothen_fan.proofs.lengthen.Goals as goal

pub count_roots-requires : goal.count_roots-requires
count_roots-requires c = ((c.matchings_of_the_transpose.ensures.matching _ _).0 c.requires.matching).cols

pub lengthen_from-requires : goal.lengthen_from-requires
lengthen_from-requires c = record { matching = (c.matchings_of_the_transpose.ensures.matching _ _).0 c.requires.matching }

pub returns-in_ok-longer-clause-matching : goal.returns-in_ok-longer-clause-matching
returns-in_ok-longer-clause-matching c = (c.matchings_of_the_transpose.ensures.matching c.args.pattern.now c.in_ok-longer.longer).1 c.in_ok-longer.ensures.matching

pub returns-in_ok-longer-clause-longer : goal.returns-in_ok-longer-clause-longer
returns-in_ok-longer-clause-longer c = straight_longer c.args.pattern.now c.args.matching c.in_ok-longer.longer c.in_ok-longer.ensures.longer

pub returns-in_ok-longer-clause-covered : goal.returns-in_ok-longer-clause-covered
returns-in_ok-longer-clause-covered c = straight_covers c.args.matching.pairs c.in_ok-longer.longer.pairs c.in_ok-longer.ensures.covered
