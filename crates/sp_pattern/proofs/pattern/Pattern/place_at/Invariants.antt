use Rattle.std.proofs.Common.{◌≤◌}
use Rattle.sp_pattern.specs.Weights.{start_of}
use Rattle.sp_pattern.proofs.pattern.Pattern.place_at.Given as goal

abbrev pub invariant-loop-col : goal.invariant-loop-col
invariant-loop-col l = start_of l.self l.col ≤ l.at
