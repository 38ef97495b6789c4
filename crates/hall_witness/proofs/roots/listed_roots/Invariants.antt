use Rattle.std.proofs.Common.{take}
use Rattle.hall_witness.specs.Trails.{AreRoots, QueuesUnmatched}
use Rattle.hall_witness.proofs.roots.listed_roots.Given as goal

abbrev pub invariant-loop-col : goal.invariant-loop-col
invariant-loop-col g l = record {
  roots : AreRoots (g.S.Side.matrix l.side) (g.F.Opposite.seen l.matching).pairs l.trail;
  queued : QueuesUnmatched (g.F.Opposite.seen l.matching).pairs (take l.col-index l.list) l.initial.trail.queue l.trail.queue;
}
