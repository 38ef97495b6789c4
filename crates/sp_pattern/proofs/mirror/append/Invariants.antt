use Rattle.std.proofs.Common.{◌≡◌, ◌++◌, map, take}
use Rattle.sp_pattern.proofs.mirror.append.Given as goal

abbrev pub invariant-loop-k : goal.invariant-loop-k
invariant-loop-k g l = map g.I.Id.number l.flat.items ≡ map g.I.Id.number l.fn.flat.items ++ take l.k l.rows
