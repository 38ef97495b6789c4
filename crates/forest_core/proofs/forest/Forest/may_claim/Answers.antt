use Rattle.std.proofs.Common.{◌∙◌, ap, not, subst, sym, true≢false}
use Rattle.bip_defs.specs.Matrix.{IsEntry, Matrix}
use Rattle.forest_core.proofs.forest.Forest.may_claim.Goals.{then-has, else-has}
use Rattle.forest_core.proofs.forest.Forest.may_claim.Goals as goal

pub returns-then-not-is_claimed : goal.returns-then-not-is_claimed
returns-then-not-is_claimed c = elim c.if-has.branch [
  | then-has w ↦ (
    λ h. (
      λ g. true≢false (sym c.if-not-is_claimed.true ∙ w.value-is ∙ ap not (w.is_claimed.ensures.1 g)),
      subst (λ (a : Matrix). IsEntry a c.args.row c.args.col) c.pattern.ensures (c.has.ensures.0 w.if-has.true),
      c.is_inside.ensures.0 h,
    ),
    λ l. c.is_inside.ensures.1 l.2,
  )
  | else-has w ↦ absurd (true≢false (sym c.if-not-is_claimed.true ∙ w.value-is ∙ w.if-has.false))
]
