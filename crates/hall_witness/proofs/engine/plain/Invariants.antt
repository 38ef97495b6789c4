use Rattle.std.proofs.Common.{◌-◌, length}
use Rattle.bip_defs.specs.Matrix.{cols}
use Rattle.bip_graph.specs.Matching.{IsMatchingOf}
use Rattle.hall_witness.proofs.engine.plain.Given as goal

abbrev pub invariant-loop-matching : goal.invariant-loop-matching
invariant-loop-matching l = IsMatchingOf l.pattern l.matching

abbrev pub decreases-loop-matching : goal.decreases-loop-matching
decreases-loop-matching l = cols l.pattern - length l.matching.pairs
