use Rattle.std.proofs.Common.{◌≡◌, ◌<◌, ◌∙◌, ◌≤◌, Some, ap, arith, length, refl}
use Rattle.std.proofs.lemmas.List.{length-set}
use Rattle.bip_defs.proofs.Sets.{among_at}
use Rattle.forest_core.specs.Tables.{beside}
use Rattle.forest_core.proofs.KeptClaims.{IsAt, at_among, below_set, is_at, keeping_end, keeping_roots, keeping_same, keeping_start, keeping_stays, keeping_table, keeping_won, leaf_known, root_below_here, root_here}
use Rattle.forest_core.proofs.renew.keep.Goals as goal
use Rattle.forest_core.proofs.renew.keep.Goals.{then-is_some, else-is_some}

pub loop-i-init : goal.loop-i-init
loop-i-init c = record {
  keeping = keeping_start c.args.leaf_of.now c.args.claims.now c.args.roots.now c.args.claimed.now c.requires.holders c.requires.roots;
  in_range = λ i lt. c.requires.in_range _ (among_at c.args.roots.now i 0 lt);
  long = refl;
  alike = c.requires.alike;
}

-- the place is within both lists
within : (c : goal.Joined-is_some) → c.loop-i.i < length c.loop-i.claims
within c = let long = c.loop-i.auto.claims in let here = c.loop-i-test.true in omega (arith, long, here)

within_roots : (c : goal.Joined-is_some) → c.loop-i.i < length c.loop-i.roots
within_roots c = let lt = within c in let long = c.loop-i.invariant.keeping.long in omega (arith, lt, long)

at : (c : goal.Joined-is_some) → IsAt c.args.claims.now c.loop-i.claims c.loop-i.i c.index-claims-i.result
at c = is_at c.args.claims.now c.loop-i.claims c.loop-i.i c.index-claims-i.result c.loop-i-test.true c.loop-i.auto.claims c.loop-i.invariant.keeping.rest c.index-claims-i.is

root : (c : goal.Joined-is_some) → beside c.args.claimed.now.roots c.index-claims-i.result.0 ≡ Some c.index-roots-i.result
root c = root_here _ _ _ _ _ _ _ _ c.index-claims-i.result c.index-roots-i.result c.loop-i.invariant.keeping (within c) c.index-claims-i.is c.index-roots-i.is

in_range : (c : goal.Joined-is_some) → c.index-roots-i.result < length c.args.leaf_of.now
in_range c = root_below_here _ c.loop-i.roots c.loop-i.i c.index-roots-i.result c.loop-i.invariant.in_range (within_roots c) c.index-roots-i.is

pub get-requires : goal.get-requires
get-requires c =
    let lt : c.loop-i.i < length c.loop-i.roots = (let long = c.loop-i.invariant.keeping.long in let same = c.loop-i.auto.claims in let here = c.loop-i-test.true in omega (arith, long, same, here)) in
    let below = root_below_here _ c.loop-i.roots c.loop-i.i c.index-roots-i.result c.loop-i.invariant.in_range lt c.index-roots-i.is in
    omega (arith, below, c.number.ensures)

pub clear-requires : goal.clear-requires
clear-requires c =
    let here = is_at c.args.claims.now c.loop-i.claims c.loop-i.i c.index-claims-i.result c.loop-i-test.true c.loop-i.auto.claims c.loop-i.invariant.keeping.rest c.index-claims-i.is in
    let lt = c.requires.rows _ _ (at_among _ _ _ _ here) in
    omega (arith, lt, c.loop-i.invariant.long)

pub loop-i-preserved : goal.loop-i-preserved
loop-i-preserved c = elim c.if-is_some.branch [
  | then-is_some w ↦ rw (w.claims-is, w.roots-is, w.claimed-is, w.stay-is) (record {
    keeping = keeping_won _ _ _ _ _ _ _ _ _ c.index-claims-i.result c.loop-i.invariant.keeping (at c) (leaf_known c.args.claimed.now.roots c.args.leaf_of.now c.index-claims-i.result c.index-roots-i.result c.get.result c.is_some.result _ (root c) (rw c.number.ensures at c.get.ensures) c.is_some.ensures w.if-is_some.true) c.requires.differ (let lt = c.requires.rows _ _ (at_among _ _ _ _ (at c)) in let long = c.loop-i.invariant.long in omega (arith, lt, long)) w.clear.ensures.holders w.clear.ensures.roots;
    in_range = c.loop-i.invariant.in_range;
    long = (let same = ap length w.clear.ensures.holders ∙ length-set _ _ _ in same ∙ c.loop-i.invariant.long);
    alike = w.clear.ensures.alike;
  })
  | else-is_some w ↦ rw (w.claims-is, w.roots-is, w.claimed-is, w.stay-is) (record {
    keeping = keeping_stays _ _ _ _ _ _ _ _ c.index-claims-i.result c.index-roots-i.result c.loop-i.invariant.keeping (at c) (root c) (leaf_known c.args.claimed.now.roots c.args.leaf_of.now c.index-claims-i.result c.index-roots-i.result c.get.result c.is_some.result _ (root c) (rw c.number.ensures at c.get.ensures) c.is_some.ensures w.if-is_some.false) (within c);
    in_range = below_set _ c.loop-i.roots _ c.index-roots-i.result c.loop-i.invariant.in_range (in_range c);
    long = c.loop-i.invariant.long;
    alike = c.loop-i.invariant.alike;
  })
]

pub returns-clause-claims : goal.returns-clause-claims
returns-clause-claims c =
    let le : length c.args.claims.now ≤ c.loop-i.i = omega arith in
    keeping_end _ _ _ _ _ _ _ _ c.loop-i.invariant.keeping le

pub returns-clause-roots : goal.returns-clause-roots
returns-clause-roots c = keeping_roots _ _ _ _ _ _ _ _ c.loop-i.invariant.keeping (let le = c.loop-i.invariant.keeping.within in let end = c.loop-i.auto in omega arith)

pub returns-clause-holders : goal.returns-clause-holders
returns-clause-holders c =
    let le : length c.args.claims.now ≤ c.loop-i.i = omega arith in
    keeping_table _ _ _ _ _ _ _ _ c.loop-i.invariant.keeping le

pub returns-clause-same : goal.returns-clause-same
returns-clause-same c =
    let le : length c.args.claims.now ≤ c.loop-i.i = omega arith in
    keeping_same _ _ _ _ _ _ _ _ c.loop-i.invariant.keeping le
