use Rattle.std.proofs.Common.{◌∙◌, arith, eq-eqb, subst, sym}
use Rattle.std.proofs.lemmas.Bool.{eqb-true}
use Rattle.bip_defs.proofs.Sets.{row_among}
use Rattle.bip_defs.specs.Forest.{IsRootOfRow}
use Rattle.forest_core.proofs.Members.{known_false}
use Rattle.forest_core.proofs.Roots.{one_root_of_row}
use Rattle.forest_core.proofs.StoredForests.{claim_in_range}
use Rattle.forest_core.proofs.forest.Forest.is_in_tree.Goals as goal

pub returns-then-number-rows-clause-tree : goal.returns-then-number-rows-clause-tree
returns-then-number-rows-clause-tree c = (
  λ h. known_false h,
  λ t.
      let lt = (claim_in_range c.args.self.now c.rows.ensures.trees.sound c.args.row t.0 t.1).0 in
      absurd (omega (arith, lt, c.if-number-rows.true, c.rows.ensures.rows, c.number.ensures)),
)

pub returns-in-Some-clause-tree : goal.returns-in-Some-clause-tree
returns-in-Some-clause-tree c = (
  λ h. subst (λ x. IsRootOfRow c.args.self.now.base c.args.self.now.claims x c.args.row) (eqb-true _ _ (sym c.eq.ensures ∙ h)) c.in-Some.ensures.found,
  λ t. c.eq.ensures ∙ eq-eqb _ _ (one_root_of_row c.args.self.now c.rows.ensures.trees.sound _ _ c.args.row c.in-Some.ensures.found t),
)

pub returns-in-None-clause-tree : goal.returns-in-None-clause-tree
returns-in-None-clause-tree c = (λ h. known_false h, λ t. absurd (c.in-None.ensures.none (row_among c.args.row t.0 c.args.self.now.claims t.1)))
