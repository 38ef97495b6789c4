use Rattle.std.proofs.Common.{map}
use Rattle.dm_coarse.proofs.SplitLemmas.{IsSplit}
use Rattle.dm_coarse.proofs.split.split.Given as goal

abbrev pub invariant-loop-at : goal.invariant-loop-at
invariant-loop-at g l = IsSplit (g.S.Side.matrix l.side) l.at (map g.F.Id.number l.horizontal_rows.items) (map g.F.Id.number l.square_rows.items) (map g.F.Id.number l.vertical_rows.items)
