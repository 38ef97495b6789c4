use Rattle.std.proofs.Common.{ℕ, [], arith}
use Rattle.bip_defs.specs.Lists.{Among}
use Rattle.bip_defs.specs.Matching.{rows_of}
use Rattle.bip_defs.specs.Matrix.{Place}
use Rattle.bip_defs.proofs.Sets.{one_col, row_among}
use Rattle.forest_core.proofs.Roots.{claims_differ}
use Rattle.forest_core.proofs.StoredForests.{claim_in_range, made_all}
use Rattle.forest_core.proofs.TableLemmas.{made_more, some_is}
use Rattle.forest_core.proofs.forest.Forest.row_holders.Goals as goal

pub loop-row-preserved : goal.loop-row-preserved
loop-row-preserved c =
    let s = c.args.self.now in
    record {
      made = rw c.push_reserved.ensures.items (made_more (λ (k v : ℕ). Among {X = Place} (k, v) s.claims) c.loop-row.row c.loop-row.list.items c.holder.result c.loop-row.invariant.made (some_is (λ v. Among {X = Place} (c.loop-row.row, v) s.claims) (¬ Among c.loop-row.row (rows_of s.claims)) c.holder.result (λ v w h g. one_col s.claims (claims_differ s.matrix s.base [] s.claims c.rows-rows.ensures.trees.sound.claims) c.loop-row.row v w h g) c.holder.ensures.found (λ n v h. n (row_among c.loop-row.row v s.claims h)) c.holder.ensures.none));
      room = rw c.push_reserved.ensures.capacity c.loop-row.invariant.room;
    }

pub returns-clause-holders : goal.returns-clause-holders
returns-clause-holders c =
    let s = c.args.self.now in
    made_all (λ (k v : ℕ). Among {X = Place} (k, v) s.claims) c.loop-row.row c.loop-row.list.items c.loop-row.invariant.made (λ k v h.
    let lt = (claim_in_range s c.rows-rows.ensures.trees.sound k v h).0 in
    omega (arith, lt, c.loop-row-test.false, c.rows-rows.ensures.rows))
