use Rattle.std.proofs.Common.{◌<◌}
use Rattle.bip_defs.specs.Lists.{Lists}
use Rattle.bip_defs.specs.Lists.{IsMarked}
use Rattle.btf_tool.proofs.rank_job.listed.Given as goal

abbrev pub invariant-loop-row : goal.invariant-loop-row
invariant-loop-row l = Lists (λ r. (r < l.row) × IsMarked l.marks r) l.rows.items
