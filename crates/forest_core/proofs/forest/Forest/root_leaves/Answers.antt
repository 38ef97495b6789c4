use Rattle.std.proofs.Common.{ℕ, arith}
use Rattle.bip_defs.specs.Lists.{Among}
use Rattle.bip_defs.specs.Matching.{rows_of}
use Rattle.bip_defs.specs.Matrix.{Place}
use Rattle.bip_defs.proofs.Sets.{one_col, row_among}
use Rattle.forest_core.proofs.StoredForests.{leaf_in_range, made_all}
use Rattle.forest_core.proofs.TableLemmas.{made_more, some_is}
use Rattle.forest_core.proofs.forest.Forest.root_leaves.Goals as goal

pub loop-col-preserved : goal.loop-col-preserved
loop-col-preserved c =
    let s = c.args.self.now in
    record {
      made = rw c.push_reserved.ensures.items (made_more (λ (k v : ℕ). Among {X = Place} (k, v) s.leaves) c.loop-col.col c.loop-col.list.items c.leaf.result c.loop-col.invariant.made (some_is (λ v. Among {X = Place} (c.loop-col.col, v) s.leaves) (¬ Among c.loop-col.col (rows_of s.leaves)) c.leaf.result (λ v w h g. one_col s.leaves c.cols-cols.ensures.trees.sound.roots_differ c.loop-col.col v w h g) c.leaf.ensures.found (λ n v h. n (row_among c.loop-col.col v s.leaves h)) c.leaf.ensures.none));
      room = rw c.push_reserved.ensures.capacity c.loop-col.invariant.room;
    }

pub returns-clause-leaves : goal.returns-clause-leaves
returns-clause-leaves c =
    let s = c.args.self.now in
    made_all (λ (k v : ℕ). Among {X = Place} (k, v) s.leaves) c.loop-col.col c.loop-col.list.items c.loop-col.invariant.made (λ k v h.
    let lt = (leaf_in_range s c.cols-cols.ensures.trees.sound k v h).0 in
    omega (arith, lt, c.loop-col-test.false, c.cols-cols.ensures.cols))
