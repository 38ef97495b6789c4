use Rattle.std.proofs.Common.{◌∙◌, ◌≤◌, ap, arith, length, refl, sym, subst, take, true≢false, ℕ, ⊎_elim, ◌++◌, ◌∷◌, []}
use Rattle.std.proofs.lemmas.List.{take_all, take_more}
use Rattle.bip_defs.specs.Lists.{Among}
use Rattle.bip_defs.specs.Matching.{rows_of}
use Rattle.bip_defs.specs.Matrix.{IsEntry, Matrix}
use Rattle.bip_defs.proofs.Sets.{among_last}
use Rattle.bip_defs.proofs.Slices.{read_among}
use Rattle.forest_core.proofs.Members.{known_false}
use Rattle.forest_core.proofs.forest.Forest.is_used_up.Goals as goal

pub is_claimed-requires : goal.is_claimed-requires
is_claimed-requires c =
    let e = c.rows_of-rows.ensures.rows.sound _ (read_among _ c.rows_of-rows.result.now _ c.loop-row-test.true c.row-item.is) in
    (subst (λ (a : Matrix). IsEntry a c.row-item.result c.args.col) c.pattern.ensures e).0

pub returns-then-not-is_claimed : goal.returns-then-not-is_claimed
returns-then-not-is_claimed c = (
  λ h. known_false h,
  λ all.
      let e = c.rows_of-rows.ensures.rows.sound _ (read_among _ c.rows_of-rows.result.now _ c.loop-row-test.true c.row-item.is) in
      absurd (true≢false (sym (c.is_claimed.ensures.1 (all c.row-item.result (subst (λ (a : Matrix). IsEntry a c.row-item.result c.args.col) c.pattern.ensures e))) ∙ c.if-not-is_claimed.true)),
)

pub loop-row-preserved : goal.loop-row-preserved
loop-row-preserved c = λ r h.
    let rows = c.rows_of-rows.result.now in
    let more = take_more rows c.loop-row.row-index c.row-item.result c.loop-row-test.true ∙ ap (λ (x : ℕ). take c.loop-row.row-index rows ++ x ∷ []) (sym c.row-item.is) in
    ⊎_elim (λ g. c.loop-row.invariant r g) (λ e. subst (λ z. Among z (rows_of c.args.self.now.claims)) (sym e) (c.is_claimed.ensures.0 c.if-not-is_claimed.false)) (among_last r _ (take c.loop-row.row-index rows) (subst (Among r) more h))

pub returns : goal.returns
returns c = (
  λ h r e.
      let le : length c.rows_of-rows.result.now ≤ c.loop-row.row-index = omega arith in
      let on = c.rows_of-rows.ensures.rows.complete r (subst (λ (a : Matrix). IsEntry a r c.args.col) (sym c.pattern.ensures) e) in
      c.loop-row.invariant r (subst (Among r) (sym (take_all c.loop-row.row-index c.rows_of-rows.result.now le)) on),
  λ all. refl,
)
