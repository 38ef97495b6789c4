use Rattle.bip_defs.proofs.BottleneckLemmas.{passing}
use Rattle.sp_pattern.proofs.RestrictLemmas.{IsKeeping}
use Rattle.sp_pattern.proofs.pattern.Pattern.kept_columns.Given as goal

abbrev pub invariant-loop-col : goal.invariant-loop-col
invariant-loop-col g l = IsKeeping l.self (passing l.self (g.F.Filter.keeps l.keep)) l.col l.starts.items l.rows.items
