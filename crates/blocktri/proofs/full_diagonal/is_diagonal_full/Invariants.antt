use Rattle.std.proofs.Common.{ℕ, ◌<◌}
use Rattle.bip_defs.specs.Matrix.{IsEntry}
use Rattle.blocktri.specs.Compressed.{listed}
use Rattle.blocktri.proofs.full_diagonal.is_diagonal_full.Given as goal

abbrev pub invariant-loop-side : goal.invariant-loop-side
invariant-loop-side g l = (i : ℕ) → i < l.side → IsEntry (listed l.matrix) i i
