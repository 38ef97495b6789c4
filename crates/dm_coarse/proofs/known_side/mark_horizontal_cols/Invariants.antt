use Rattle.bip_defs.specs.Marks.{Marks}
use Rattle.bip_defs.specs.Parts.{IsHorizontalCol}
use Rattle.dm_coarse.proofs.known_side.mark_horizontal_cols.Given as goal

abbrev pub invariant-loop-number : goal.invariant-loop-number
invariant-loop-number g l = Marks l.number (IsHorizontalCol (g.S.Side.matrix l.side)) l.marks.items
