use Rattle.std.proofs.Common.{◌≡◌, ◌%◌, ◌^◌, map, take}
use Rattle.karp_sipser.specs.NeighbourSums.{total}
use Rattle.karp_sipser.proofs.neighbour_sums.sum_of.Given as goal

abbrev pub invariant-loop-id : goal.invariant-loop-id
invariant-loop-id g l = l.sum ≡ total l.unit (take l.id-index (map g.I.Id.number l.ids)) % 2 ^ 32
