use Rattle.std.proofs.Common.{◌≡◌, ◌++◌, take}
use Rattle.frontier_levels.proofs.events.make_claims_of.Given as goal

abbrev pub invariant-loop-claim : goal.invariant-loop-claim
invariant-loop-claim l = l.forest ≡ record l.fn.forest { claims = l.fn.forest.claims ++ take l.claim-index l.claims }
