use Rattle.std.proofs.Common.{◌<◌, ◌≤◌, ◌+◌, ◌∙◌, length, get_or, below_more, sym, subst, ap, arith, refl}
use Rattle.bip_defs.specs.Matrix.{column}
use Rattle.integer_diagonal.proofs.ScanLemmas.{known_column, make_scan, place_col, row_entry, scan_distance, scan_reaches}
use Rattle.integer_diagonal.proofs.SearchInvariant.{best_look, kept_look, known_look, looked_known}
use Rattle.std.proofs.lemmas.List.{get_or_read}
use Rattle.integer_diagonal.specs.Labels.{IsKnown, IsSearch, labels_of, tree_of}
use Rattle.integer_diagonal.specs.SearchTree.{Reaches, Tree, depth}
use Rattle.integer_diagonal.specs.Duals.{priced}
use Rattle.integer_diagonal.proofs.search.DijkstraSearch.scan.Goals as goal

pub index-dual-requires : goal.index-dual-requires
index-dual-requires g c =
    let a = place_col (priced c.args.weights.now c.args.assignment.now) _ _ (tree_of c.args.self.now) c.args.place _ c.requires.search.1.grown c.requires.place c.index.ensures in
    omega (arith, a.1, c.requires.assignment.feasible.duals_are, c.args.assignment.now.duals.ok.0)

pub rows_of-rows-requires : goal.rows_of-rows-requires
rows_of-rows-requires g c =
    let a = place_col (priced c.args.weights.now c.args.assignment.now) _ _ (tree_of c.args.self.now) c.args.place _ c.requires.search.1.grown c.requires.place c.index.ensures in
    a.1

pub weights_of-weights-requires : goal.weights_of-weights-requires
weights_of-weights-requires g c = (place_col (priced c.args.weights.now c.args.assignment.now) _ _ (tree_of c.args.self.now) c.args.place _ c.requires.search.1.grown c.requires.place c.index.ensures).1

pub index-price-requires : goal.index-price-requires
index-price-requires g c =
    let entry = row_entry _ c.args.weights.now.matrix _ _ _ _ _ refl c.rows_of-rows.ensures.rows c.loop-k-test.true c.index-rows-k.is c.number-row.ensures in
    omega (arith, entry.0, c.requires.assignment.feasible.prices_are, c.args.assignment.now.prices.ok.0)

pub distance-distance-requires : goal.distance-distance-requires
distance-distance-requires g c =
    let k = c.requires.assignment in
    let grown = c.requires.search.1.grown in
    let entry = row_entry _ c.args.weights.now.matrix _ _ _ _ _ refl c.rows_of-rows.ensures.rows c.loop-k-test.true c.index-rows-k.is c.number-row.ensures in
    let s = make_scan (priced c.args.weights.now c.args.assignment.now) _ _ (tree_of c.args.self.now) c.args.place _ _ c.weights_of-weights.result.now _ _ _ _ _ _ k.feasible grown c.requires.place c.index.ensures c.index-depth.ensures c.index-dual.ensures c.index-price.ensures c.rows_of-rows.ensures.column c.loop-k-test.true c.index-rows-k.is c.number-row.ensures entry c.weights_of-weights.ensures.each c.weights_of-weights.ensures.length in
    let room = c.requires.room in
    scan_distance _ _ _ _ _ _ _ _ k.feasible c.requires.place s _ _ _ room k.matching k.bounded grown

pub look-requires-clause-row : goal.look-requires-clause-row
look-requires-clause-row g c =
    let entry = row_entry _ c.args.weights.now.matrix _ _ _ _ _ refl c.rows_of-rows.ensures.rows c.loop-k-test.true c.index-rows-k.is c.number-row.ensures in
    omega (arith, entry.0, c.requires.assignment.rows_are)

pub look-requires-clause-distances : goal.look-requires-clause-distances
look-requires-clause-distances g c =
    let entry = row_entry _ c.args.weights.now.matrix _ _ _ _ _ refl c.rows_of-rows.ensures.rows c.loop-k-test.true c.index-rows-k.is c.number-row.ensures in
    omega (arith, entry.0, c.loop-k.invariant.kept.distances_are)

pub look-requires-clause-parents : goal.look-requires-clause-parents
look-requires-clause-parents g c =
    let entry = row_entry _ c.args.weights.now.matrix _ _ _ _ _ refl c.rows_of-rows.ensures.rows c.loop-k-test.true c.index-rows-k.is c.number-row.ensures in
    omega (arith, entry.0, c.loop-k.invariant.kept.parents_are)

pub loop-k-preserved : goal.loop-k-preserved
loop-k-preserved g c =
    let x = priced c.args.weights.now c.args.assignment.now in
    let t = tree_of c.args.self.now in
    let entry = row_entry _ c.args.weights.now.matrix _ _ _ _ _ refl c.rows_of-rows.ensures.rows c.loop-k-test.true c.index-rows-k.is c.number-row.ensures in
    let s = make_scan x _ _ t c.args.place _ _ c.weights_of-weights.result.now _ _ _ _ _ _ c.requires.assignment.feasible c.requires.search.1.grown c.requires.place c.index.ensures c.index-depth.ensures c.index-dual.ensures c.index-price.ensures c.rows_of-rows.ensures.column c.loop-k-test.true c.index-rows-k.is c.number-row.ensures entry c.weights_of-weights.ensures.each c.weights_of-weights.ensures.length in
    let i = c.loop-k.invariant in
    let looked = c.in_ok-look.ensures.looked in
    let near = c.distance-distance.ensures.near in
    let reaches = subst (Reaches x t c.number-row.result c.args.place) (sym c.distance-distance.ensures.sum) (scan_reaches _ _ _ _ _ _ _ _ c.requires.assignment.feasible c.requires.place s) in
    let above : depth t c.args.place ≤ c.distance-distance.result = (let sum = c.distance-distance.ensures.sum in let dep_is = s.dep_is in omega (arith, sum, dep_is)) in
    let inside : c.number-row.result < length c.loop-k.self.distances.items = (let long = i.kept.distances_are in let lt = entry.0 in omega (arith, long, lt)) in
    record {
      tree = c.in_ok-look.ensures.tree ∙ i.tree;
      kept = kept_look x _ t _ _ _ _ _ _ _ _ i.kept looked entry.0 reaches above near;
      best = best_look x _ t _ _ _ _ _ _ _ _ i.best looked reaches above;
      known = λ j r lt e. known_look x _ t _ _ _ _ _ _ _ j r looked inside near (i.known j r lt e);
      part = below_more _ _ (λ j lt. known_look x _ t _ _ _ _ _ _ _ c.args.place (get_or c.rows_of-rows.result.now j 0) looked inside near (i.part j lt)) (subst (λ z. IsKnown x t (labels_of c.look.new.self) c.look.new.nearest.distance c.args.place z) (c.number-row.ensures ∙ get_or_read c.rows_of-rows.result.now c.loop-k.k _ c.loop-k-test.true c.index-rows-k.is 0) (looked_known x _ t _ _ _ _ _ _ _ looked inside near reaches));
      listed = c.in_ok-look.ensures.listed i.listed;
    }

pub returns-clause-search : goal.returns-clause-search
returns-clause-search g c = λ root k.
    let x = priced c.args.weights.now c.args.assignment.now in
    let i = c.loop-k.invariant in
    let col = place_col x _ root (tree_of c.args.self.now) c.args.place _ k.grown c.requires.place c.index.ensures in
    let column_is = c.rows_of-rows.ensures.column ∙ ap (column c.args.weights.now.matrix) col.0 in
    subst (λ (z : Tree). IsSearch x c.args.assignment.now.matching.pairs root z (labels_of c.loop-k.self) c.loop-k.nearest c.loop-k.self.reached.items (depth z c.args.place) (c.args.place + 1)) (sym i.tree) (record {
      grown = k.grown;
      kept = i.kept;
      best = i.best;
      known = known_column x (tree_of c.args.self.now) (labels_of c.loop-k.self) _ c.args.place _ _ i.known column_is c.loop-k-test.false i.part;
      listed = i.listed;
    })
