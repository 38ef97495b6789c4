use Rattle.std.proofs.Common.{◌≡◌, ◌++◌, take}
use Rattle.sp_pattern.specs.Restricted.{taken}
use Rattle.sp_pattern.proofs.restrict.push_taken.Given as goal

abbrev pub invariant-loop-k : goal.invariant-loop-k
invariant-loop-k g l = l.rows.items ≡ l.fn.rows.items ++ taken (g.C.Choice.takes l.choice) l.from (take l.k l.column)
