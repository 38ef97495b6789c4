use Rattle.std.proofs.Common.{arith}
use Rattle.bip_defs.proofs.Covers.{covers_more}
use Rattle.path_search.proofs.GrownTrees.{extended_length}
use Rattle.path_search.proofs.ShortestLemmas.{grown_on}
use Rattle.path_search.proofs.SweepLemmas.{forest_short}
use Rattle.path_search.proofs.forest.SearchForest.shortest.Goals as goal

pub overflow_cast-root : goal.overflow_cast-root
overflow_cast-root g c =
    let k = c.loop-root.invariant in
    let short = forest_short _ _ _ k.growing.forest in
    let few = k.growing.few_cols in
    let roots = k.roots in
    omega (arith, short, few, roots, c.loop-root-test.true)

pub loop-root-preserved : goal.loop-root-preserved
loop-root-preserved g c =
    let k = c.loop-root.invariant in
    let e = c.extend.ensures in
    let roots = k.roots in
    let longer = extended_length _ _ e.trees.extends in
    record {
      growing = e.trees.growing;
      roots = omega (arith, roots, longer);
      layers = e.layers;
      covered = covers_more k.covered e.trees.covered;
      grown = grown_on _ _ _ k.grown e.grown;
    }
