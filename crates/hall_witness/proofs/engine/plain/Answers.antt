use Rattle.std.proofs.Common.{arith, rules, subst, sym}
use Rattle.bip_defs.specs.Matrix.{AreEntries}
use Rattle.bip_defs.specs.Witness.{IsAugmentingPath}
use Rattle.bip_defs.proofs.Below.{entries_within}
use Rattle.bip_defs.proofs.Full.{matching_few}
use Rattle.hall_witness.proofs.Phases.{exchanged}
use Rattle.hall_witness.proofs.engine.plain.Goals as goal

pub flip-requires-clause-in_range : goal.flip-requires-clause-in_range
flip-requires-clause-in_range c =
    let found : IsAugmentingPath c.args.pattern.now c.loop-matching.matching.pairs c.in-Path.path.items = search rules in
    rw (c.loop-matching.invariant.rows, c.loop-matching.invariant.cols) (entries_within c.args.pattern.now c.as_slice.result.now (subst (AreEntries c.args.pattern.now) (sym c.as_slice.ensures.value) found.entries))

pub loop-matching-smaller : goal.loop-matching-smaller
loop-matching-smaller c =
    let found : IsAugmentingPath c.args.pattern.now c.loop-matching.matching.pairs c.in-Path.path.items = search rules in
    let next = exchanged c.args.pattern.now c.loop-matching.matching c.flip.new.self c.as_slice.result.now c.loop-matching.invariant (subst (AreEntries c.args.pattern.now) (sym c.as_slice.ensures.value) found.entries) c.flip.ensures.entries c.flip.ensures.sizes in
    omega (arith, matching_few c.args.pattern.now c.flip.new.self.pairs next.matching, c.flip.ensures.size)

pub loop-matching-preserved : goal.loop-matching-preserved
loop-matching-preserved c =
    let found : IsAugmentingPath c.args.pattern.now c.loop-matching.matching.pairs c.in-Path.path.items = search rules in
    exchanged c.args.pattern.now c.loop-matching.matching c.flip.new.self c.as_slice.result.now c.loop-matching.invariant (subst (AreEntries c.args.pattern.now) (sym c.as_slice.ensures.value) found.entries) c.flip.ensures.entries c.flip.ensures.sizes
