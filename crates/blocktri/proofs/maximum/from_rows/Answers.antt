use Rattle.std.proofs.Common.{rules}
use Rattle.bip_defs.proofs.Transposed.{turned_vertical_col_marks}
use Rattle.blocktri.proofs.maximum.from_rows.Goals as goal

pub returns-clause-maximum : goal.returns-clause-maximum
returns-clause-maximum c = (c.matchings_of_the_transpose.ensures.maximum c.args.pattern.now c.in-Some.maximum).1 (rw c.in-Some.is at c.in_ok-maximum.ensures.maximum)

pub returns-clause-marks : goal.returns-clause-marks
returns-clause-marks c = search (rules, turned_vertical_col_marks)
