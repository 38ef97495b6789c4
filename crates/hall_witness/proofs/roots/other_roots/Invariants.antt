use Rattle.hall_witness.specs.Trails.{AreRoots}
use Rattle.hall_witness.proofs.ScanLemmas.{AreQueued}
use Rattle.hall_witness.proofs.roots.other_roots.Given as goal

abbrev pub invariant-loop-col : goal.invariant-loop-col
invariant-loop-col g l = record {
  roots : AreRoots (g.S.Side.matrix l.side) (g.F.Opposite.seen l.matching).pairs l.trail;
  queued : AreQueued (g.F.Opposite.seen l.matching).pairs l.col l.trail.queue;
}
