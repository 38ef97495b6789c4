use Rattle.std.proofs.Common.{◌-◌}
use Rattle.matching_tests.proofs.tables.+by_all_ways.Given as goal

abbrev pub decreases-by_all_ways : goal.decreases-by_all_ways
decreases-by_all_ways l = l.size - l.col
