use Rattle.std.proofs.Common.{◌≡◌, ◌+◌, ◌%◌, ◌^◌, length, map, take}
use Rattle.karp_sipser.proofs.LeftOut.{IsLowering}
use Rattle.karp_sipser.proofs.neighbour_sums.lower.Given as goal

abbrev pub invariant-loop-id : goal.invariant-loop-id
invariant-loop-id g l = IsLowering l.unit ((l.unit + l.neighbour) % 2 ^ 32) l.fn.words l.words l.fn.of_one.members l.of_one.members (take l.id-index (map g.I.Id.number l.ids)) × (l.of_one.bound ≡ length l.fn.words)
