use Rattle.bip_defs.proofs.Covers.{straight_covers}
use Rattle.bip_defs.proofs.Transposed.{turned_vertical_col_marks}
use Rattle.breadth_first_match.proofs.complete_with_marks.Goals as goal

pub count_roots-requires : goal.count_roots-requires
count_roots-requires c = ((c.matchings_of_the_transpose.ensures.matching _ _).0 c.requires.matching).cols

pub complete_from_with_marks-requires : goal.complete_from_with_marks-requires
complete_from_with_marks-requires c = record { matching = (c.matchings_of_the_transpose.ensures.matching _ _).0 c.requires.matching }

pub returns-in_ok-maximum-clause-maximum : goal.returns-in_ok-maximum-clause-maximum
returns-in_ok-maximum-clause-maximum c = (c.matchings_of_the_transpose.ensures.maximum c.args.pattern.now c.in_ok-maximum.maximum).1 c.in_ok-maximum.ensures.maximum

pub returns-in_ok-maximum-clause-covered : goal.returns-in_ok-maximum-clause-covered
returns-in_ok-maximum-clause-covered c = straight_covers c.args.matching.pairs c.in_ok-maximum.maximum.pairs c.in_ok-maximum.ensures.covered

pub returns-in_ok-maximum-clause-marks : goal.returns-in_ok-maximum-clause-marks
returns-in_ok-maximum-clause-marks c = turned_vertical_col_marks c.args.pattern.now c.in_ok-maximum.marks.items c.in_ok-maximum.ensures.marks
