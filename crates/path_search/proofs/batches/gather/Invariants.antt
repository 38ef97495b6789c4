use Rattle.std.proofs.Common.{◌-◌, ◌≤◌, length, take}
use Rattle.path_search.specs.Batches.{Gathers, numbers_in}
use Rattle.path_search.proofs.batches.gather.Given as goal

abbrev pub invariant-loop-end : goal.invariant-loop-end
invariant-loop-end g l = record {
  after : l.from ≤ l.end;
  within : l.end ≤ length l.lists;
  room : l.len ≤ length l.candidates;
  gathered : Gathers (numbers_in g.F.Id.number l.lists) l.batch.place l.from l.end (take l.len l.candidates);
}

abbrev pub decreases-loop-end : goal.decreases-loop-end
decreases-loop-end g l = length l.lists - l.end
