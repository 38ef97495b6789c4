use Rattle.std.proofs.Common.{take}
use Rattle.bip_defs.specs.Lists.{Among}
use Rattle.bip_defs.specs.Matching.{rows_of}
use Rattle.blocktri.specs.Dmperm.{Grows}
use Rattle.blocktri.proofs.permuted.push_unmatched_rows.Given as goal

abbrev pub invariant-loop-k : goal.invariant-loop-k
invariant-loop-k l = Grows (λ r. Among r (take l.k l.given) × (¬ Among r (rows_of l.matching.pairs))) l.fn.rows.items l.rows.items
