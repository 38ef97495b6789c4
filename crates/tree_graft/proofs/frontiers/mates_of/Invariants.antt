use Rattle.std.proofs.Common.{take}
use Rattle.tree_graft.specs.PhaseSearch.{AreMatesOf}
use Rattle.tree_graft.proofs.frontiers.mates_of.Given as goal

abbrev pub invariant-loop-row : goal.invariant-loop-row
invariant-loop-row l = AreMatesOf l.forest (take l.row-index l.claims) l.columns.items
