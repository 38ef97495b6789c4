use Rattle.bip_defs.specs.Matrix.{Matrix}
use Rattle.square_components.proofs.EndLemmas.{AreCleared}
use Rattle.square_components.proofs.search.unmet.Given as goal

abbrev pub invariant-loop-place : goal.invariant-loop-place
invariant-loop-place g l = AreCleared (Matrix.rows (g.C.ColumnLists.matrix l.fn.columns)) (g.S.SquarePart.rows l.part) l.place l.state.items
