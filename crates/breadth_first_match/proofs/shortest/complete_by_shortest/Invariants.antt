use Rattle.std.proofs.Common.{◌≡◌, ◌-◌, ◌+◌, false, length, if◌then◌else◌}
use Rattle.bip_defs.specs.Marks.{Marks}
use Rattle.bip_defs.specs.Matching.{Covers, IsMaximum}
use Rattle.bip_defs.specs.Matrix.{cols}
use Rattle.bip_defs.specs.Parts.{IsHorizontalRow}
use Rattle.breadth_first_match.specs.Ready.{AreLaid}
use Rattle.breadth_first_match.proofs.shortest.complete_by_shortest.Given as goal

abbrev pub invariant-loop-grows : goal.invariant-loop-grows
invariant-loop-grows g l = record {
  ready : AreLaid (g.S.Side.matrix l.side) (g.F.Opposite.seen l.grown) l.phases;
  last : l.grows ≡ false → IsMaximum (g.S.Side.matrix l.side) (g.F.Opposite.seen l.grown).pairs;
  marks : l.grows ≡ false → Marks (g.S.Side.matrix l.side).rows (IsHorizontalRow (g.S.Side.matrix l.side)) l.phases.forest.marks;
  covered : Covers (g.F.Opposite.seen l.fn.matching).pairs (g.F.Opposite.seen l.grown).pairs;
}

abbrev pub decreases-loop-grows : goal.decreases-loop-grows
decreases-loop-grows g l = (cols (g.S.Side.matrix l.side) - length (g.F.Opposite.seen l.grown).pairs) + (if l.grows then 1 else 0)
