use Rattle.std.proofs.Common.{◌↔◌, IsTrue, take}
use Rattle.bip_defs.specs.Lists.{Among}
use Rattle.bip_defs.specs.Matching.{cols_of}
use Rattle.blocktri.specs.Dmperm.{Grows}
use Rattle.blocktri.proofs.permuted.push_columns.Given as goal

abbrev pub invariant-loop-k : goal.invariant-loop-k
invariant-loop-k l = Grows (λ c. Among c (take l.k l.given) × (IsTrue l.is_matched ↔ Among c (cols_of l.matching.pairs))) l.fn.columns.items l.columns.items
