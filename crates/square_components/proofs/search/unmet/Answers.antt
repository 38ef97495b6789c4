use Rattle.std.proofs.Common.{◌∙◌, ap, arith, replicate, sym, subst}
use Rattle.bip_defs.specs.Matrix.{Matrix}
use Rattle.bip_graph.specs.Matching.{none}
use Rattle.square_components.specs.Steps.{AreUnmet}
use Rattle.square_components.proofs.EndLemmas.{AreCleared, at_among, cleared_all, cleared_more, cleared_none, unmet_all}
use Rattle.square_components.proofs.search.unmet.Goals as goal

pub returns-then-len-rows : goal.returns-then-len-rows
returns-then-len-rows g c =
    let a = g.C.ColumnLists.matrix c.args.columns in
    let listed = g.S.SquarePart.rows c.args.part in
    let square = c.requires.square_rows in
    subst (AreUnmet (Matrix.rows a) listed) (sym (c.in_ok-vec.ensures.items_if_clones_equal (λ y same. same) ∙ ap (λ n. replicate n 0) c.rows-rows.ensures))
    (unmet_all (Matrix.rows a) listed square.rising (λ r h. (square.sound r h).0) (omega (arith, c.if-len-rows.true, c.len.ensures, c.rows-rows.ensures)))

pub loop-place-init : goal.loop-place-init
loop-place-init g c =
    subst (AreCleared (Matrix.rows (g.C.ColumnLists.matrix c.args.columns)) (g.S.SquarePart.rows c.args.part) 0) (sym (c.in_ok-state.ensures.items_if_clones_equal (λ y same. same) ∙ ap (λ n. replicate n none) c.rows-rows.ensures)) (cleared_none _ _)

pub index_mut-requires : goal.index_mut-requires
index_mut-requires g c =
    let square = c.requires.square_rows in
    let lt = (square.sound c.row_at.result (at_among _ _ _ c.row_at.ensures (omega (arith, c.loop-place-test.true, c.len-place-end.ensures)))).0 in
    let long = c.loop-place.invariant.long in
    omega (arith, lt, long)

pub loop-place-preserved : goal.loop-place-preserved
loop-place-preserved g c =
    let square = c.requires.square_rows in
    cleared_more _ _ _ _ _ square.rising (λ r h. (square.sound r h).0) c.loop-place.invariant (omega (arith, c.loop-place-test.true, c.len-place-end.ensures)) (c.index_mut.view_is ∙ c.row_at.ensures)

pub returns : goal.returns
returns g c = cleared_all _ _ _ _ c.loop-place.invariant (omega (arith, c.loop-place-test.false, c.len-place-end.ensures))
