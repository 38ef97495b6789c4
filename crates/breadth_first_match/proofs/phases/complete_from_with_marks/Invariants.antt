use Rattle.bip_defs.specs.Matching.{Covers}
use Rattle.path_search.specs.Forests.{CanGrow}
use Rattle.breadth_first_match.proofs.phases.complete_from_with_marks.Given as goal

abbrev pub invariant-loop-phase : goal.invariant-loop-phase
invariant-loop-phase g l = record {
  ready : CanGrow (g.S.Side.matrix l.side) (g.F.Opposite.seen l.grown) l.forest;
  covered : Covers (g.F.Opposite.seen l.fn.matching).pairs (g.F.Opposite.seen l.grown).pairs;
}
