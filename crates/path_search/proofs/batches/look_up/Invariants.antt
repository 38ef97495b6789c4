use Rattle.path_search.specs.Batches.{HaveRows, numbers_in}
use Rattle.path_search.proofs.batches.look_up.Given as goal

abbrev pub invariant-loop-at : goal.invariant-loop-at
invariant-loop-at g l = HaveRows (g.S.Side.matrix l.side) (g.F.Opposite.seen l.matching).pairs l.queue l.place l.at (numbers_in g.F.Id.number l.lists)
