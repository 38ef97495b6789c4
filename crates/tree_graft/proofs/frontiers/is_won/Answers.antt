use Rattle.std.proofs.Common.{sym, subst, true≢false}
use Rattle.bip_defs.specs.Forest.{roots_of}
use Rattle.bip_defs.specs.Lists.{Among}
use Rattle.bip_defs.proofs.Sets.{row_among}
use Rattle.tree_graft.proofs.frontiers.is_won.Goals as goal

pub returns-in-Some : goal.returns-in-Some
returns-in-Some c = (
  λ t. (c.in-Some.root, c.in-Some.ensures.found, c.has_leaf.ensures.leaf.0 t),
  λ (x, up, l). c.has_leaf.ensures.leaf.1 (subst (λ z. Among z (roots_of c.args.forest.now.leaves)) (c.in-Some.ensures.only x up) l),
)

pub returns-in-None : goal.returns-in-None
returns-in-None c = (
  λ t. absurd (true≢false (sym t)),
  λ (x, (d, claimed, root), l). absurd (c.in-None.ensures.none (row_among c.args.row d c.args.forest.now.claims claimed)),
)
