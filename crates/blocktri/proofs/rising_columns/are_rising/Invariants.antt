use Rattle.std.proofs.Common.{◌<◌, ℕ}
use Rattle.bip_defs.specs.Lists.{IsRising}
use Rattle.bip_defs.specs.Pieces.{piece}
use Rattle.blocktri.proofs.rising_columns.are_rising.Given as goal

abbrev pub invariant-loop-col : goal.invariant-loop-col
invariant-loop-col g l = (c : ℕ) → c < l.col → IsRising (piece (g.N.NumberList.numbers l.starts) (g.N.NumberList.numbers l.ids) c)
