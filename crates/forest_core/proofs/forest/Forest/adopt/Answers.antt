use Rattle.std.proofs.Common.{◌∙◌, ◌++◌, ℕ, ap, length, subst, sym}
use Rattle.bip_defs.specs.Lists.{Among}
use Rattle.bip_defs.specs.Forest.{State, roots_of}
use Rattle.forest_core.specs.Events.{Runs}
use Rattle.forest_core.specs.Exchanged.{flip_events, unflipped}
use Rattle.forest_core.specs.Inside.{state_of}
use Rattle.forest_core.proofs.AdoptedMatchings.{adopted_now, exchanged_mutual}
use Rattle.forest_core.proofs.FlippedRoots.{all_flipped, all_flips_run, flipped_count, flipped_only}
use Rattle.forest_core.proofs.RunLemmas.{leads_on}
use Rattle.forest_core.proofs.forest.Forest.adopt.Goals as goal

pub of-matching-requires : goal.of-matching-requires
of-matching-requires c = record { «mutual» = exchanged_mutual c.args.self.now c.args.mates c.flip_all.ensures.trees.sound c.requires.exchanged }

pub invariant_of-self : goal.invariant_of-self
invariant_of-self c =
    let s = c.args.self.now in
    let room = c.self.invariant.1 in (
      c.self.invariant.0,
      record { claims = room.claims; claim_roots = room.claim_roots; path = room.path; leaves = room.leaves; flipped = room.flipped; few = room.few },
      adopted_now s (state_of c.self.inside) c.args.mates c.of-matching.result (s.flipped ++ unflipped s) (length c.as_slice-flips.result.now) c.flip_all.ensures.trees.sound c.requires.exchanged (c.self.view_is ∙ c.flip_all.ensures.flipped) (flipped_only s c.flip_all.ensures.trees.sound) (all_flipped s) (ap length c.as_slice-flips.ensures.value) c.of-matching.ensures.rows c.of-matching.ensures.cols c.of-matching.ensures.pairs c.is_matching.ensures.rows_differ c.is_matching.ensures.cols_rise,
    )

pub returns-clause-flips : goal.returns-clause-flips
returns-clause-flips c = subst (Runs c.args.self.now (flip_events (unflipped c.args.self.now))) (sym (c.self.view_is ∙ c.flip_all.ensures.flipped)) (all_flips_run c.args.self.now c.flip_all.ensures.trees.sound)

pub returns-clause-all : goal.returns-clause-all
returns-clause-all c = subst (λ (u : State). (x : ℕ) → Among x (roots_of u.leaves) → Among x u.flipped) (sym (c.self.view_is ∙ c.flip_all.ensures.flipped)) (all_flipped c.args.self.now)

pub returns-clause-size : goal.returns-clause-size
returns-clause-size c = ap (λ (u : State). length u.flipped) (c.self.view_is ∙ c.flip_all.ensures.flipped) ∙ flipped_count c.args.self.now c.flip_all.ensures.trees.sound

pub returns-clause-leads : goal.returns-clause-leads
returns-clause-leads c = λ r lead. leads_on r c.args.self.now _ lead (flip_events (unflipped c.args.self.now), returns-clause-flips c)
