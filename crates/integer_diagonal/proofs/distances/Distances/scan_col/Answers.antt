use Rattle.std.proofs.Common.{sym, subst, arith, refl}
use Rattle.std.proofs.lemmas.List.{get_or_read}
use Rattle.integer_diagonal.proofs.FairnessLemmas.{entry_at}
use Rattle.integer_diagonal.proofs.PhaseLemmas.{entry_distance}
use Rattle.integer_diagonal.proofs.StartLemmas.{read_at}
use Rattle.integer_diagonal.specs.Distances.{AreNear}
use Rattle.integer_diagonal.specs.Duals.{priced}
use Rattle.integer_diagonal.proofs.distances.Distances.scan_col.Goals as goal

pub of-farthest-requires : goal.of-farthest-requires
of-farthest-requires g c = let room = c.requires.room in omega (arith, room)

pub index-dual-requires : goal.index-dual-requires
index-dual-requires g c =
    omega (arith, c.requires.col, c.requires.assignment.feasible.duals_are, c.args.assignment.now.duals.ok.0, c.col.view_is)

pub weights_of-weights-requires : goal.weights_of-weights-requires
weights_of-weights-requires g c = c.requires.col

pub index-price-requires : goal.index-price-requires
index-price-requires g c =
    let x = priced c.args.graph.now.weights.now c.args.assignment.now in
    let k = c.requires.assignment in
    let row = c.number-row.result in
    let look = entry_at x c.args.graph.now.weights.now.matrix c.args.col c.loop-k.k c.rows_of-rows.result.now c.weights_of-weights.result.now _ c.number-row.result refl c.rows_of-rows.ensures.rows c.rows_of-rows.ensures.column c.weights_of-weights.ensures.length c.weights_of-weights.ensures.each c.loop-k-test.true c.index-rows-k.is c.number-row.ensures in
    omega (arith, look.0.0, k.feasible.prices_are, c.args.assignment.now.prices.ok.0)

pub distance-distance-requires : goal.distance-distance-requires
distance-distance-requires g c =
    let x = priced c.args.graph.now.weights.now c.args.assignment.now in
    let k = c.requires.assignment in
    let row = c.number-row.result in
    let look = entry_at x c.args.graph.now.weights.now.matrix c.args.col c.loop-k.k c.rows_of-rows.result.now c.weights_of-weights.result.now _ row refl c.rows_of-rows.ensures.rows c.rows_of-rows.ensures.column c.weights_of-weights.ensures.length c.weights_of-weights.ensures.each c.loop-k-test.true c.index-rows-k.is c.number-row.ensures in
    let price = get_or_read x.prices row c.index-price.result.now (omega (arith, look.0.0, k.feasible.prices_are)) c.index-price.ensures 0 in
    let dual_is = read_at x.duals c.args.col c.col.inside.0 c.index-dual.result.now c.col.view_is (omega (arith, c.requires.col, k.feasible.duals_are)) c.index-dual.ensures in
    entry_distance x _ _ _ _ _ _ _ _ _ k refl c.requires.room c.requires.depth look.0 price look.1 dual_is

pub look-requires : goal.look-requires
look-requires g c =
    let x = priced c.args.graph.now.weights.now c.args.assignment.now in
    let k = c.requires.assignment in
    let row = c.number-row.result in
    let look = entry_at x c.args.graph.now.weights.now.matrix c.args.col c.loop-k.k c.rows_of-rows.result.now c.weights_of-weights.result.now _ c.number-row.result refl c.rows_of-rows.ensures.rows c.rows_of-rows.ensures.column c.weights_of-weights.ensures.length c.weights_of-weights.ensures.each c.loop-k-test.true c.index-rows-k.is c.number-row.ensures in
    omega (arith, look.0.0, c.loop-k.invariant.within.long)

pub loop-k-preserved : goal.loop-k-preserved
loop-k-preserved g c =
    let i = c.loop-k.invariant in
    let near = subst (λ n. AreNear n c.of-farthest.result c.loop-k.self) (sym i.within.long) (subst (λ m. AreNear c.args.graph.now.weights.now.matrix.rows m c.loop-k.self) (sym c.of-farthest.ensures) i) in
    subst (λ m. AreNear c.args.graph.now.weights.now.matrix.rows m c.look.new.self) c.of-farthest.ensures (subst (λ n. AreNear n c.of-farthest.result c.look.new.self) i.within.long (c.in_ok-look.ensures near))
