use Rattle.std.proofs.Common.{◌≡◌, ◌≢◌, ◌<◌, ◌∙◌, ap, arith, refl, subst, sym, true≢false, ⊎_elim}
use Rattle.bip_defs.specs.Matrix.{IsEntry, Matrix, cols}
use Rattle.bip_defs.proofs.Sets.{number_same}
use Rattle.bip_defs.specs.Forest.{InForest}
use Rattle.forest_core.proofs.Members.{known_false}
use Rattle.forest_core.proofs.forest.Forest.is_closed.Goals.{else-is_inside-via-then-is_inside+else-not-is_used_up, else-is_inside-via-else-is_inside}
use Rattle.forest_core.proofs.forest.Forest.is_closed.Goals as goal

pub returns-then-not-is_used_up : goal.returns-then-not-is_used_up
returns-then-not-is_used_up c = (
  λ h. known_false h,
  λ all. absurd (true≢false (sym (c.is_used_up.ensures.1 (all c.loop-number.number (c.is_inside.ensures.0 c.if-is_inside.true))) ∙ c.if-not-is_used_up.true)),
)

pub loop-number-preserved : goal.loop-number-preserved
loop-number-preserved c = λ r x lt inside e. ⊎_elim
    (λ (f : x ≡ c.loop-number.number). elim c.else-is_inside.branch [
      | else-is_inside-via-then-is_inside+else-not-is_used_up w ↦ w.is_used_up.ensures.0 w.if-not-is_used_up.false r (subst (IsEntry c.args.self.now.matrix r) f e)
      | else-is_inside-via-else-is_inside w ↦ absurd (true≢false (sym (c.is_inside.ensures.1 (subst (InForest c.args.self.now) f inside)) ∙ w.if-is_inside.false))
    ])
    (λ (ne : x ≢ c.loop-number.number). c.loop-number.invariant r x (omega arith) inside e)
    (number_same x c.loop-number.number)

pub returns : goal.returns
returns c = (
  λ h x inside r e. (
      let below : x < c.loop-number.number = omega (arith, inside.0, c.loop-number-test.false, c.cols-number-end.ensures, ap (λ (a : Matrix). cols a) c.pattern.ensures) in
      c.loop-number.invariant r x below inside e
      ),
  λ all. refl,
)
