use Rattle.std.proofs.Common.{take}
use Rattle.forest_core.specs.Events.{Runs}
use Rattle.bip_defs.specs.Forest.{new_forest}
use Rattle.forest_core.proofs.runs.every_run.Given as goal

abbrev pub invariant-loop-made : goal.invariant-loop-made
invariant-loop-made l = Runs (new_forest l.fn.pattern l.fn.matching.pairs) (take l.made l.events) l.forest
