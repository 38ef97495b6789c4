use Rattle.std.proofs.Common.{◌-◌, ◌≤◌, length, map, take}
use Rattle.sp_pattern.specs.Mirror.{AreSymmetric, lowered}
use Rattle.sp_pattern.proofs.HalfLemmas.{IsHalved}
use Rattle.sp_pattern.proofs.halves.compress_half.Given as goal

abbrev pub invariant-loop-k : goal.invariant-loop-k
invariant-loop-k g l = record {
  within : l.k ≤ length l.places;
  symmetric : AreSymmetric (take l.k l.places);
  halved : IsHalved l.n (map g.H.Half.pair (lowered l.places)) l.k l.last l.starts.items (map g.I.Id.number l.flat.items);
}

abbrev pub decreases-loop-k : goal.decreases-loop-k
decreases-loop-k g l = l.len - l.k
