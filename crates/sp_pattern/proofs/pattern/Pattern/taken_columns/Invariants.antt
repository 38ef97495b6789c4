use Rattle.sp_pattern.specs.Restricted.{taken_rows}
use Rattle.sp_pattern.proofs.RestrictLemmas.{IsKeeping}
use Rattle.sp_pattern.proofs.pattern.Pattern.taken_columns.Given as goal

abbrev pub invariant-loop-col : goal.invariant-loop-col
invariant-loop-col g l = IsKeeping l.self (taken_rows l.self (g.C.Choice.takes l.choice)) l.col l.starts.items l.rows.items
