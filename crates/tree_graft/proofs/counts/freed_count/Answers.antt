use Rattle.std.proofs.Common.{◌∙◌, ◌<◌, length, arith, subst, sym, true≢false}
use Rattle.std.proofs.lemmas.List.{get_or_default}
use Rattle.bip_defs.specs.Forest.{IsRootOfRow, roots_of}
use Rattle.bip_defs.specs.Lists.{Among}
use Rattle.tree_graft.proofs.CountLemmas.{claim_at, freed_all, freed_more, freed_none, freed_same}
use Rattle.tree_graft.proofs.counts.freed_count.Goals.{then-has_leaf, else-has_leaf}
use Rattle.tree_graft.proofs.counts.freed_count.Goals as goal

pub loop-root-init : goal.loop-root-init
loop-root-init c = record { few = omega arith; count = freed_none c.args.forest.now }

pub loop-root-preserved : goal.loop-root-preserved
loop-root-preserved c =
    let s = c.args.forest.now in
    let here : c.loop-root.root-index < length s.claims = omega (arith, c.loop-root-test.true, c.claim_roots-root-items.ensures.long) in
    let rooted : IsRootOfRow s.base s.claims c.root-item.result (claim_at s c.loop-root.root-index).0 =
    subst (λ x. IsRootOfRow s.base s.claims x (claim_at s c.loop-root.root-index).0)
    (sym (c.root-item.is ∙ get_or_default c.claim_roots-root-items.result.now c.loop-root.root-index c.root-item.result 0 c.loop-root-test.true))
    (c.claim_roots-root-items.ensures.roots c.loop-root.root-index here) in
    elim c.if-has_leaf.branch [
      | then-has_leaf w ↦ rw w.freed-is (record {
        few = let few = c.loop-root.invariant.few in omega (arith, few);
        count = freed_more s c.loop-root.root-index c.loop-root.freed c.claim_roots-root-items.ensures.trees.rows_differ here (c.root-item.result, rooted, c.has_leaf.ensures.leaf.0 w.if-has_leaf.true) c.loop-root.invariant.count;
      })
      | else-has_leaf w ↦ rw w.freed-is (record {
        few = let few = c.loop-root.invariant.few in omega (arith, few);
        count = freed_same s c.loop-root.root-index c.loop-root.freed here
            (λ (x, up, l). true≢false (sym (c.has_leaf.ensures.leaf.1 (subst (λ z. Among z (roots_of s.leaves)) (c.claim_roots-root-items.ensures.trees.one_row_root x c.root-item.result (claim_at s c.loop-root.root-index).0 up rooted) l)) ∙ w.if-has_leaf.false)) c.loop-root.invariant.count;
      })
    ]

pub returns : goal.returns
returns c = freed_all c.args.forest.now c.loop-root.root-index c.loop-root.freed (let long = c.claim_roots-root-items.ensures.long in let last = c.loop-root-test.false in omega (arith, long, last)) c.loop-root.invariant.count
