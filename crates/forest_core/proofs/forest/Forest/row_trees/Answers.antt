use Rattle.std.proofs.Common.{ℕ, arith}
use Rattle.bip_defs.specs.Lists.{Among}
use Rattle.bip_defs.specs.Matching.{rows_of}
use Rattle.bip_defs.proofs.Sets.{row_among}
use Rattle.bip_defs.specs.Forest.{IsRootOfRow}
use Rattle.forest_core.proofs.Roots.{one_root_of_row}
use Rattle.forest_core.proofs.StoredForests.{claim_in_range, made_all}
use Rattle.forest_core.proofs.TableLemmas.{made_more, some_is}
use Rattle.forest_core.proofs.forest.Forest.row_trees.Goals as goal

pub loop-row-preserved : goal.loop-row-preserved
loop-row-preserved c =
    let s = c.args.self.now in
    let r = c.loop-row.row in
    record {
      made = rw c.push_reserved.ensures.items (made_more (λ (k v : ℕ). IsRootOfRow s.base s.claims v k) r c.loop-row.list.items c.root_of_row.result c.loop-row.invariant.made (some_is (λ v. IsRootOfRow s.base s.claims v r) (¬ Among r (rows_of s.claims)) c.root_of_row.result (λ v w h g. one_root_of_row s c.rows-rows.ensures.trees.sound v w r h g) c.root_of_row.ensures.found (λ n v t. n (row_among r t.0 s.claims t.1)) c.root_of_row.ensures.none));
      room = rw c.push_reserved.ensures.capacity c.loop-row.invariant.room;
    }

pub returns-clause-roots : goal.returns-clause-roots
returns-clause-roots c =
    let s = c.args.self.now in
    made_all (λ (k v : ℕ). IsRootOfRow s.base s.claims v k) c.loop-row.row c.loop-row.list.items c.loop-row.invariant.made (λ k v t.
    let lt = (claim_in_range s c.rows-rows.ensures.trees.sound k t.0 t.1).0 in
    omega (arith, lt, c.loop-row-test.false, c.rows-rows.ensures.rows))
