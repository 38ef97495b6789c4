use Rattle.std.proofs.Common.{◌≡◌, ◌∙◌, ◌<◌, List, append-nil, ap, length, slice_index_or, subst, sym, true≢false}
use Rattle.bip_defs.specs.Matrix.{Place}
use Rattle.bip_defs.proofs.Sets.{among_at, row_among}
use Rattle.bip_defs.specs.Forest.{State}
use Rattle.forest_core.specs.Paths.{with_flipped}
use Rattle.forest_core.proofs.FlippedRoots.{flips_next, passes_next}
use Rattle.forest_core.proofs.StoredForests.{leaf_in_range}
use Rattle.forest_core.proofs.forest.Forest.flip_all.Goals.{then-not-flipped, else-not-flipped}
use Rattle.forest_core.proofs.forest.Forest.flip_all.Goals as goal

pub loop-i-init : goal.loop-i-init
loop-i-init c = ap (with_flipped c.args.self.now) (sym (append-nil c.args.self.now.flipped))

pub flipped-requires : goal.flipped-requires
flipped-requires c =
    let e = c.leaves.ensures.leaves ∙ ap (λ (t : State). t.leaves) c.loop-i.invariant in
    let lt = subst (λ (ls : List Place). c.loop-i.i < length ls) c.leaves-i-end.ensures.leaves c.loop-i-test.true in
    let p = slice_index_or c.args.self.now.leaves c.loop-i.i c.index-leaves-i.result in
    rw (e, c.loop-i.invariant) (leaf_in_range c.args.self.now c.leaves-i-end.ensures.trees.sound p.0 p.1 (among_at c.args.self.now.leaves c.loop-i.i c.index-leaves-i.result lt)).0

pub flip-requires : goal.flip-requires
flip-requires c =
    let e = c.leaves.ensures.leaves ∙ ap (λ (t : State). t.leaves) c.loop-i.invariant in
    let lt = subst (λ (ls : List Place). c.loop-i.i < length ls) c.leaves-i-end.ensures.leaves c.loop-i-test.true in
    let p = slice_index_or c.args.self.now.leaves c.loop-i.i c.index-leaves-i.result in (
      rw (e, c.loop-i.invariant) (row_among p.0 p.1 c.args.self.now.leaves (among_at c.args.self.now.leaves c.loop-i.i c.index-leaves-i.result lt)),
      λ h. true≢false (sym (c.flipped.ensures.1 h) ∙ c.if-not-flipped.true),
    )

pub loop-i-preserved : goal.loop-i-preserved
loop-i-preserved c =
    let e : c.leaves.result.now ≡ c.args.self.now.leaves = c.leaves.ensures.leaves ∙ ap (λ (t : State). t.leaves) c.loop-i.invariant in
    let lt = subst (λ (ls : List Place). c.loop-i.i < length ls) c.leaves-i-end.ensures.leaves c.loop-i-test.true in
    let p = slice_index_or c.leaves.result.now c.loop-i.i c.index-leaves-i.result in
    let at : p ≡ slice_index_or c.args.self.now.leaves c.loop-i.i p = ap (λ (ls : List Place). slice_index_or ls c.loop-i.i c.index-leaves-i.result) e ∙ ap (slice_index_or c.args.self.now.leaves c.loop-i.i) c.index-leaves-i.is in
    elim c.if-not-flipped.branch [
      | then-not-flipped w ↦ flips_next c.args.self.now c.loop-i.self c.if-not-flipped.self c.loop-i.i p c.loop-i.invariant lt at (λ h. true≢false (sym (c.flipped.ensures.1 h) ∙ w.if-not-flipped.true)) (w.self-is ∙ w.flip.ensures)
      | else-not-flipped w ↦ passes_next c.args.self.now c.loop-i.self c.if-not-flipped.self c.loop-i.i p c.leaves-i-end.ensures.trees.sound c.loop-i.invariant lt at (c.flipped.ensures.0 w.if-not-flipped.false) w.self-is
    ]
