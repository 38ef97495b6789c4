use Rattle.hall_witness.proofs.ScanLemmas.{roots_start, searching_start}
use Rattle.hall_witness.proofs.laws.searches_begin.Goals as goal

pub returns-clause-roots : goal.returns-clause-roots
returns-clause-roots c a m marks q e f = roots_start a m marks q e f

pub returns-clause-searching : goal.returns-clause-searching
returns-clause-searching c a m marks q s = searching_start a m marks q s
