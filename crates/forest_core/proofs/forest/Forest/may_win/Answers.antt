use Rattle.std.proofs.Common.{◌∙◌, ap, not, sym, true≢false}
use Rattle.forest_core.proofs.Members.{is_not}
use Rattle.forest_core.proofs.Roots.{root_free}
use Rattle.forest_core.proofs.forest.Forest.may_win.Goals.{then-is_in_tree, else-is_in_tree}
use Rattle.forest_core.proofs.forest.Forest.may_win.Goals as goal

pub returns-then-not-has_leaf : goal.returns-then-not-has_leaf
returns-then-not-has_leaf c = elim c.if-is_in_tree.branch [
  | then-is_in_tree w ↦ (
    λ h.
        let tree = c.is_in_tree.ensures.tree.0 w.if-is_in_tree.true in (
          root_free _ _ tree.2,
          λ g. true≢false (sym c.if-not-has_leaf.true ∙ w.value-is ∙ ap not (w.has_leaf.ensures.leaf.1 g)),
          λ g. true≢false (sym h ∙ ap not (c.is_matched.ensures.1 g)),
          tree,
        ),
    λ l. is_not c.is_matched.result (λ e. l.2 (c.is_matched.ensures.0 e)),
  )
  | else-is_in_tree w ↦ absurd (true≢false (sym c.if-not-has_leaf.true ∙ w.value-is ∙ w.if-is_in_tree.false))
]
