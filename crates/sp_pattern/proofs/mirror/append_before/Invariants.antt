use Rattle.std.proofs.Common.{◌≡◌, ◌++◌, filter, map, nat_lt, take}
use Rattle.sp_pattern.proofs.mirror.append_before.Given as goal

abbrev pub invariant-loop-k : goal.invariant-loop-k
invariant-loop-k g l = map g.I.Id.number l.flat.items ≡ map g.I.Id.number l.fn.flat.items ++ filter (λ j. nat_lt j l.end) (take l.k l.cols)
