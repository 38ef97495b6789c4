use Rattle.std.proofs.Common.{sym, subst, arith, refl}
use Rattle.bip_defs.specs.Matrix.{cols}
use Rattle.bip_defs.proofs.Sets.{entry_col}
use Rattle.integer_diagonal.proofs.PhaseLemmas.{col_entry, entry_distance}
use Rattle.integer_diagonal.proofs.RowWeightLemmas.{row_weight}
use Rattle.integer_diagonal.proofs.StartLemmas.{read_at}
use Rattle.integer_diagonal.specs.Distances.{AreNear}
use Rattle.integer_diagonal.specs.Duals.{priced}
use Rattle.integer_diagonal.proofs.distances.Distances.scan_row.Goals as goal

pub index-dual-requires : goal.index-dual-requires
index-dual-requires g c =
    let a = c.args.graph.now.weights.now.matrix in
    let entry = col_entry c.pattern.result.now a c.args.row c.cols_of-cols.result.now c.loop-k.k c.index-cols-k.result (sym c.pattern.ensures) c.cols_of-cols.ensures.cols c.loop-k-test.true c.index-cols-k.is in
    let lt = entry_col a c.args.row c.index-cols-k.result entry in
    omega (arith, lt, c.requires.assignment.feasible.duals_are, c.args.assignment.now.duals.ok.0, c.col.view_is)

pub bounds-weights-k : goal.bounds-weights-k
bounds-weights-k g c = (row_weight c.args.graph.now.weights.now c.pattern.result.now c.args.row c.loop-k.k c.index-cols-k.result c.cols_of-cols.result.now c.weights_of_row-weights.result.now (sym c.pattern.ensures) c.cols_of-cols.ensures.row_list c.weights_of_row-weights.ensures c.loop-k-test.true c.index-cols-k.is).0

pub distance-distance-requires : goal.distance-distance-requires
distance-distance-requires g c =
    let x = priced c.args.graph.now.weights.now c.args.assignment.now in
    let k = c.requires.assignment in
    let col = c.index-cols-k.result in
    let entry = col_entry c.pattern.result.now c.args.graph.now.weights.now.matrix c.args.row c.cols_of-cols.result.now c.loop-k.k col (sym c.pattern.ensures) c.cols_of-cols.ensures.cols c.loop-k-test.true c.index-cols-k.is in
    let lt = entry_col c.args.graph.now.weights.now.matrix c.args.row col entry in
    let price = read_at x.prices c.args.row c.row.inside.0 c.index-price.result.now c.row.view_is (omega (arith, c.requires.row, k.feasible.prices_are)) c.index-price.ensures in
    let dual_is = read_at x.duals col c.col.inside.0 c.index-dual.result.now c.col.view_is (omega (arith, lt, k.feasible.duals_are)) c.index-dual.ensures in
    let weight = row_weight x.weighing c.pattern.result.now c.args.row c.loop-k.k col c.cols_of-cols.result.now c.weights_of_row-weights.result.now (sym c.pattern.ensures) c.cols_of-cols.ensures.row_list c.weights_of_row-weights.ensures c.loop-k-test.true c.index-cols-k.is in
    entry_distance x _ _ _ _ _ _ _ _ _ k refl c.requires.room c.requires.depth entry price weight.1 dual_is

pub look-requires : goal.look-requires
look-requires g c =
    let a = c.args.graph.now.weights.now.matrix in
    let entry = col_entry c.pattern.result.now a c.args.row c.cols_of-cols.result.now c.loop-k.k c.index-cols-k.result (sym c.pattern.ensures) c.cols_of-cols.ensures.cols c.loop-k-test.true c.index-cols-k.is in
    let lt = entry_col a c.args.row c.index-cols-k.result entry in
    omega (arith, lt, c.loop-k.invariant.within.long, c.col.view_is)

pub loop-k-preserved : goal.loop-k-preserved
loop-k-preserved g c =
    let i = c.loop-k.invariant in
    let n = cols c.args.graph.now.weights.now.matrix in
    let near = subst (λ n. AreNear n c.of-farthest.result c.loop-k.self) (sym i.within.long) (subst (λ m. AreNear n m c.loop-k.self) (sym c.of-farthest.ensures) i) in
    subst (λ m. AreNear n m c.look.new.self) c.of-farthest.ensures (subst (λ n. AreNear n c.of-farthest.result c.look.new.self) i.within.long (c.in_ok-look.ensures near))
