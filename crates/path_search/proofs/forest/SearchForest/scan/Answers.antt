use Rattle.std.proofs.Common.{◌<◌, length, map, subst, sym, arith}
use Rattle.std.proofs.lemmas.List.{length-map, take_more}
use Rattle.bip_defs.specs.Matrix.{IsEntry}
use Rattle.bip_defs.proofs.Slices.{number_read, number_at}
use Rattle.path_search.proofs.GrownTrees.{room_more, scanning_found, scanning_more}
use Rattle.path_search.proofs.forest.SearchForest.scan.Goals as goal

pub visit-requires-clause-row : goal.visit-requires-clause-row
visit-requires-clause-row g c =
    let e : IsEntry (g.S.Side.matrix c.args.side.now) c.number.result c.args.col = c.rows_of-rows.ensures.rows.sound _ (number_read g.F.Id.number _ c.rows_of-rows.result.now _ _ c.loop-far-test.true c.far-item.is c.number.ensures) in
    rw c.loop-far.invariant.forest.rows_are e.0

pub visit-requires-clause-room : goal.visit-requires-clause-room
visit-requires-clause-room g c = λ d pair un. room_more _ _ _ c.number.result d c.requires.growing.matching.matching c.loop-far.invariant.forest pair un

pub returns-then-visit-clause-forest : goal.returns-then-visit-clause-forest
returns-then-visit-clause-forest g c =
    let e : IsEntry (g.S.Side.matrix c.args.side.now) c.number.result c.args.col = c.rows_of-rows.ensures.rows.sound _ (number_read g.F.Id.number _ c.rows_of-rows.result.now _ _ c.loop-far-test.true c.far-item.is c.number.ensures) in
    (scanning_found _ _ _ _ _ _ _ c.args.place c.args.root c.args.col c.loop-far.invariant (rw c.loop-far.invariant.forest.rows_are e.0) e (rw c.if-visit.true at c.visit.ensures)).forest

pub returns-then-visit-clause-found : goal.returns-then-visit-clause-found
returns-then-visit-clause-found g c =
    let e : IsEntry (g.S.Side.matrix c.args.side.now) c.number.result c.args.col = c.rows_of-rows.ensures.rows.sound _ (number_read g.F.Id.number _ c.rows_of-rows.result.now _ _ c.loop-far-test.true c.far-item.is c.number.ensures) in
    (scanning_found _ _ _ _ _ _ _ c.args.place c.args.root c.args.col c.loop-far.invariant (rw c.loop-far.invariant.forest.rows_are e.0) e (rw c.if-visit.true at c.visit.ensures)).leaf

pub loop-far-preserved : goal.loop-far-preserved
loop-far-preserved g c =
    let rows = map g.F.Id.number c.rows_of-rows.result.now in
    let e : IsEntry (g.S.Side.matrix c.args.side.now) c.number.result c.args.col = c.rows_of-rows.ensures.rows.sound _ (number_read g.F.Id.number _ c.rows_of-rows.result.now _ _ c.loop-far-test.true c.far-item.is c.number.ensures) in
    let at = number_at g.F.Id.number _ c.rows_of-rows.result.now _ _ 0 c.loop-far-test.true c.far-item.is c.number.ensures in
    let lt : c.loop-far.far-index < length rows = omega (arith, length-map c.rows_of-rows.result.now g.F.Id.number, c.loop-far-test.true) in
    rw (take_more rows c.loop-far.far-index 0 lt, ← at) (scanning_more _ _ _ _ _ _ _ c.args.place c.args.root c.requires.growing.matching.matching c.loop-far.invariant (rw c.loop-far.invariant.forest.rows_are e.0) c.requires.place c.requires.root (subst (λ x. IsEntry (g.S.Side.matrix c.args.side.now) c.number.result x) (sym c.requires.col) e) (rw c.if-visit.false at c.visit.ensures))
