use Rattle.std.proofs.Common.{◌∙◌, ◌≤◌, List, ap, arith, length, refl, take, sym, subst, true≢false, ⊎_elim, ◌++◌, ◌∷◌, []}
use Rattle.std.proofs.lemmas.List.{take_all, take_more}
use Rattle.bip_defs.specs.Forest.{roots_of}
use Rattle.bip_defs.specs.Lists.{Among}
use Rattle.bip_defs.specs.Matrix.{Place}
use Rattle.bip_defs.proofs.Sets.{among_last, row_among}
use Rattle.bip_defs.proofs.Slices.{read_among}
use Rattle.forest_core.proofs.Members.{map_last, known_false}
use Rattle.forest_core.proofs.StoredForests.{leaf_in_range}
use Rattle.forest_core.proofs.forest.Forest.are_flipped.Goals as goal

pub flipped-requires : goal.flipped-requires
flipped-requires c =
    let on = read_among _ c.leaves-leaves.result.now _ c.loop-root-test.true c.loop-root-item.is in
    (leaf_in_range c.args.self.now c.leaves-leaves.ensures.trees.sound _ _ (subst (Among c.loop-root-item.result) c.leaves-leaves.ensures.leaves on)).0

pub returns-then-not-flipped : goal.returns-then-not-flipped
returns-then-not-flipped c = (
  λ h. known_false h,
  λ all.
      let on = read_among _ c.leaves-leaves.result.now _ c.loop-root-test.true c.loop-root-item.is in
      let root = row_among _ _ c.args.self.now.leaves (subst (Among c.loop-root-item.result) c.leaves-leaves.ensures.leaves on) in
      absurd (true≢false (sym (c.flipped.ensures.1 (all _ root)) ∙ c.if-not-flipped.true)),
)

pub loop-root-preserved : goal.loop-root-preserved
loop-root-preserved c = λ x h.
    let leaves = c.leaves-leaves.result.now in
    let more = take_more leaves c.loop-root.root-index c.loop-root-item.result c.loop-root-test.true ∙ ap (λ (p : Place). take c.loop-root.root-index leaves ++ p ∷ []) (sym c.loop-root-item.is) in
    ⊎_elim (λ g. c.loop-root.invariant x g) (λ e. subst (λ z. Among z c.args.self.now.flipped) (sym e) (c.flipped.ensures.0 c.if-not-flipped.false)) (among_last x _ (roots_of (take c.loop-root.root-index leaves)) (subst (Among x) (ap roots_of more ∙ map_last (λ (p : Place). p.0) (take c.loop-root.root-index leaves) c.loop-root-item.result) h))

pub returns : goal.returns
returns c = (
  λ h x on.
      let le : length c.leaves-leaves.result.now ≤ c.loop-root.root-index = omega arith in
      c.loop-root.invariant x (subst (λ (qs : List Place). Among x (roots_of qs)) (sym c.leaves-leaves.ensures.leaves ∙ sym (take_all c.loop-root.root-index c.leaves-leaves.result.now le)) on),
  λ all. refl,
)
