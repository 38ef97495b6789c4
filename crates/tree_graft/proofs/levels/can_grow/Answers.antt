use Rattle.std.proofs.Common.{◌≡◌, ◌≢◌, ◌∙◌, ap, arith, not, subst, sym, ⊎_elim}
use Rattle.bip_defs.specs.Lists.{Among}
use Rattle.bip_defs.specs.Matching.{cols_of}
use Rattle.bip_defs.specs.Matrix.{IsEntry, Place}
use Rattle.bip_defs.proofs.Sets.{col_among, entry_col, number_same}
use Rattle.tree_graft.proofs.SearchLemmas.{none_among, some_holds}
use Rattle.tree_graft.proofs.levels.can_grow.Goals.{else-is_none-via-then-is_none+else-not-is_empty, else-is_none-via-else-is_none}
use Rattle.tree_graft.proofs.levels.can_grow.Goals as goal

pub row_of-requires : goal.row_of-requires
row_of-requires c = omega (arith, c.loop-number-test.true, c.cols-number-end.ensures, c.requires.cols)

pub loop-number-preserved : goal.loop-number-preserved
loop-number-preserved c = λ r x lt e. ⊎_elim
    (λ (f : x ≡ c.loop-number.number). elim c.else-is_none.branch [
      | else-is_none-via-then-is_none+else-not-is_empty w ↦ absurd (none_among r w.rows_of.result.now (w.is_empty.ensures) (w.if-not-is_empty.false) (w.rows_of.ensures.rows.complete r (subst (IsEntry c.args.pattern.now r) f e)))
      | else-is_none-via-else-is_none w ↦
          let (q, m) = some_holds (λ q. Among {X = Place} (q, c.loop-number.number) c.args.matching.now.pairs) c.row_of.result (c.is_none.ensures ∙ ap not w.if-is_none.false) c.row_of.ensures.found in
          subst (λ z. Among z (cols_of c.args.matching.now.pairs)) (sym f) (col_among q c.loop-number.number c.args.matching.now.pairs m)
    ])
    (λ (ne : x ≢ c.loop-number.number). c.loop-number.invariant r x (omega (arith, lt, ne)) e)
    (number_same x c.loop-number.number)

pub returns : goal.returns
returns c = λ fact r x e. c.loop-number.invariant r x (omega (arith, entry_col c.args.pattern.now r x e, c.loop-number-test.false, c.cols-number-end.ensures)) e
