use Rattle.std.proofs.Common.{ℕ, arith}
use Rattle.bip_defs.specs.Lists.{Among}
use Rattle.bip_defs.proofs.Sets.{row_among}
use Rattle.forest_core.proofs.Members.{known_false, some_decides}
use Rattle.forest_core.proofs.StoredForests.{root_with_leaf}
use Rattle.forest_core.proofs.forest.Forest.has_leaf.Goals as goal

pub returns-then-number-cols-clause-leaf : goal.returns-then-number-cols-clause-leaf
returns-then-number-cols-clause-leaf c = (
  λ h. known_false h,
  λ h.
      let lt = root_with_leaf c.args.self.now c.args.root c.cols.ensures.trees.sound h in
      absurd (omega (arith, lt, c.if-number-cols.true, c.cols.ensures.cols, c.number.ensures)),
)

pub returns-clause-leaf : goal.returns-clause-leaf
returns-clause-leaf c = some_decides (λ r. Among {X = ℕ × ℕ} (c.args.root, r) c.args.self.now.leaves) _ _ c.is_some.ensures (λ r m. row_among c.args.root r c.args.self.now.leaves m) c.leaf.ensures.found c.leaf.ensures.none
