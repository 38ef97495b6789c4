use Rattle.std.proofs.Common.{◌-◌}
use Rattle.matching_tests.proofs.tables.+rank_of.Given as goal

abbrev pub decreases-rank_of : goal.decreases-rank_of
decreases-rank_of l = l.size - l.col
