use Rattle.std.proofs.Common.{◌≡◌, ◌+◌, ◌++◌, map, take}
use Rattle.path_search.specs.Batches.{candidates_of}
use Rattle.path_search.proofs.batches.append.Given as goal

abbrev pub invariant-loop-at : goal.invariant-loop-at
invariant-loop-at g l = take (l.len + l.at) l.candidates ≡ take l.len l.fn.candidates ++ candidates_of l.place (take l.at (map g.F.Id.number l.rows))
