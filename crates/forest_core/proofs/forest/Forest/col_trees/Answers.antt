use Rattle.std.proofs.Common.{ℕ, ◌<◌, arith}
use Rattle.bip_defs.specs.Matrix.{cols}
use Rattle.bip_defs.specs.Forest.{InForest, RootOf}
use Rattle.forest_core.proofs.Roots.{one_root}
use Rattle.forest_core.proofs.StoredForests.{root_inside}
use Rattle.forest_core.proofs.TableLemmas.{made_more, some_is}
use Rattle.forest_core.proofs.forest.Forest.col_trees.Goals as goal

pub loop-col-preserved : goal.loop-col-preserved
loop-col-preserved c =
    let s = c.args.self.now in
    let x = c.loop-col.col in
    let lt : x < cols s.matrix = omega (arith, c.loop-col-test.true, c.cols-cols.ensures.cols) in
    record {
      made = rw c.push_reserved.ensures.items (made_more (λ (k v : ℕ). RootOf s.base s.claims v k) x c.loop-col.list.items c.root_of.result c.loop-col.invariant.made (some_is (λ v. RootOf s.base s.claims v x) (¬ InForest s x) c.root_of.result (λ v w h g. one_root s c.cols-cols.ensures.trees.sound h g) c.root_of.ensures.found (λ n v t. n (root_inside s t lt)) c.root_of.ensures.none));
      room = rw c.push_reserved.ensures.capacity c.loop-col.invariant.room;
    }
