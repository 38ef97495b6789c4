use Rattle.std.proofs.Common.{◌≡◌, ◌∙◌, ◌+◌, ap, arith, length, subst}
use Rattle.bip_defs.specs.Forest.{State}
use Rattle.bip_defs.specs.Matching.{Covers, IsMatching}
use Rattle.bip_defs.specs.Matrix.{Matrix}
use Rattle.bip_graph.specs.Matching.{Pairing}
use Rattle.tree_graft.proofs.AugmentLemmas.{flips_settled, kept_before, leaves_added}
use Rattle.tree_graft.proofs.augment.augment.Goals as goal

pub renew-requires-clause-settled : goal.renew-requires-clause-settled
renew-requires-clause-settled g c = flips_settled c.args.forest.now c.adopt.new.self _ c.adopt.ensures.flipped c.requires.settled

-- the base is larger by the number of leaves
growth : (g : _) (c : goal.After-size g) → length c.renew.new.forest.base ≡ length c.args.forest.now.base + length c.args.forest.now.leaves
growth g c = leaves_added c.args.forest.now c.adopt.new.self c.renew.new.forest _ c.adopt.ensures.flipped c.adopt.ensures.size c.renew.ensures.growth

pub overflow_sub-result : goal.overflow_sub-result
overflow_sub-result g c = omega (arith, growth g c, c.size.ensures.size, c.size-before.ensures.size, ap (λ (p : Pairing). length p.pairs) c.base.ensures.base, ap (λ (p : Pairing). length p.pairs) c.base-2.ensures.base)

pub returns-clause-leads : goal.returns-clause-leads
returns-clause-leads g c = λ r lead. c.renew.ensures.leads r (c.adopt.ensures.leads r lead)

pub returns-clause-matched : goal.returns-clause-matched
returns-clause-matched g c =
    let same = c.renew.ensures.matrix ∙ ap (λ (s : State). s.matrix) c.adopt.ensures.flipped in
    record {
      matrix = same;
      matching = subst (λ (a : Matrix). IsMatching a c.renew.new.forest.base) same c.base-2.ensures.trees.sound.base;
      covered = subst (λ (s : State). Covers s.base c.renew.new.forest.base) c.adopt.ensures.flipped c.renew.ensures.covered;
    }

pub returns-clause-paths : goal.returns-clause-paths
returns-clause-paths g c = omega (arith, growth g c, c.size.ensures.size, c.size-before.ensures.size, ap (λ (p : Pairing). length p.pairs) c.base.ensures.base, ap (λ (p : Pairing). length p.pairs) c.base-2.ensures.base)

pub returns-clause-growth : goal.returns-clause-growth
returns-clause-growth g c = omega (arith, growth g c, c.size.ensures.size, c.size-before.ensures.size, ap (λ (p : Pairing). length p.pairs) c.base.ensures.base, ap (λ (p : Pairing). length p.pairs) c.base-2.ensures.base)

pub returns-clause-claims : goal.returns-clause-claims
returns-clause-claims g c = record {
  kept = λ few. kept_before c.args.forest.now c.adopt.new.self _ _ c.adopt.ensures.flipped (c.renew.ensures.claims.kept (c.trees_stay-keeps.ensures.1 few));
  cleared = λ many. c.renew.ensures.claims.cleared (λ stay. many (c.trees_stay-keeps.ensures.0 stay));
}
