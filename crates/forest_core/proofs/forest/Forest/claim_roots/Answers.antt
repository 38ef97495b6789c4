use Rattle.forest_core.specs.Inside.{state_of}
use Rattle.std.proofs.Common.{◌<◌, length, subst, ℕ, ap, ◌∙◌}
use Rattle.bip_defs.specs.Forest.{State}
use Rattle.forest_core.specs.Stored.{IsRootOfClaim}
use Rattle.forest_core.proofs.Trees.{has_trees}
use Rattle.forest_core.proofs.forest.Forest.claim_roots.Goals as goal

pub returns-clause-long : goal.returns-clause-long
returns-clause-long c = ap length c.as_slice.ensures.value ∙ c.self.invariant.0.listed.long ∙ ap (λ (s : State). length s.claims) c.self.view_is

pub returns-clause-roots : goal.returns-clause-roots
returns-clause-roots c = rw c.as_slice.ensures.value (subst (λ (s : State). (i : ℕ) → i < length s.claims → IsRootOfClaim s c.self.inside.claim_roots.items i) c.self.view_is (λ i lt. (c.self.invariant.0.rooted _ _).0 (c.self.invariant.0.listed.are i lt)))

pub returns-clause-trees : goal.returns-clause-trees
returns-clause-trees c = rw (← c.self.view_is) (has_trees (state_of c.self.inside) c.self.invariant.0.sound)
