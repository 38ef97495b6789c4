use Rattle.std.proofs.Common.{◌-◌, ◌≤◌, length, take}
use Rattle.sp_pattern.specs.Mirror.{AreSymmetric}
use Rattle.sp_pattern.proofs.mirror.are_mirrored.Given as goal

abbrev pub invariant-loop-k : goal.invariant-loop-k
invariant-loop-k l = record {
  within : l.k ≤ length l.places;
  symmetric : AreSymmetric (take l.k l.places);
}

abbrev pub decreases-loop-k : goal.decreases-loop-k
decreases-loop-k l = l.len - l.k
