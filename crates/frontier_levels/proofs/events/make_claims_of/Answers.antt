use Rattle.std.proofs.Common.{sym, subst}
use Rattle.bip_defs.specs.Forest.{State}
use Rattle.forest_core.specs.Events.{IsLegal}
use Rattle.frontier_levels.proofs.EventLemmas.{by_claim, claim_event, more_claims, next_legal, no_claims, with_claims}
use Rattle.frontier_levels.proofs.events.make_claims_of.Goals as goal

pub claim-requires : goal.claim-requires
claim-requires c =
    let next = next_legal claim_event with_claims no_claims more_claims by_claim _ _ c.args.claims.now c.loop-claim.claim-index c.claim-item.result _ c.requires c.loop-claim-test.true c.claim-item.is in
    subst (λ (s : State). IsLegal s (claim_event c.claim-item.result)) (sym c.loop-claim.invariant) next
