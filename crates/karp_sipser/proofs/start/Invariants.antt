use Rattle.std.proofs.Common.{◌-◌, length}
use Rattle.bip_defs.specs.Matrix.{cols}
use Rattle.karp_sipser.proofs.TakenPairs.{IsUnderWay}
use Rattle.karp_sipser.specs.Rest.{HasOnes, IsUnmatchedRest}
use Rattle.karp_sipser.proofs.start.Given as goal

abbrev pub invariant-loop-row : goal.invariant-loop-row
invariant-loop-row l = IsUnmatchedRest l.pattern l.rest × HasOnes l.pattern l.rest × IsUnderWay l.pattern l.rest.matching.pairs

abbrev pub decreases-loop-row : goal.decreases-loop-row
decreases-loop-row l = cols l.pattern - length l.rest.matching.pairs
