use Rattle.std.proofs.Common.{◌≡◌, arith, subst, sym, rules}
use Rattle.bip_defs.specs.Lists.{IsMarked}
use Rattle.least_match.proofs.PartLemmas.{not_vertical}
use Rattle.least_match.proofs.SearchLemmas.{each_more, item_among}
use Rattle.std.proofs.lemmas.List.{get_or_read}
use Rattle.least_match.proofs.parts.part_of.Goals as goal

pub bounds-vertical-row-inside : goal.bounds-vertical-row-inside
bounds-vertical-row-inside c =
    let e = c.rows_of-rows.ensures.rows.sound _ (item_among c.rows_of-rows.result.now c.loop-row.row-index c.row-item.result c.row-item.is c.loop-row-test.true) in
    let lt = e.0 in
    let long = c.requires.vertical.long in
    let same : c.row.inside.0 ≡ c.row-item.result = c.row.view_is in
    omega (arith, lt, long, same)

pub returns-then-vertical-row : goal.returns-then-vertical-row
returns-then-vertical-row c =
    let e = c.rows_of-rows.ensures.rows.sound _ (item_among c.rows_of-rows.result.now c.loop-row.row-index c.row-item.result c.row-item.is c.loop-row-test.true) in
    let here : IsMarked c.args.vertical.now c.row.inside.0 = search rules in
    let marked : IsMarked c.args.vertical.now c.row-item.result = subst (IsMarked c.args.vertical.now) c.row.view_is here in
    (c.row-item.result, (c.requires.vertical.exact c.row-item.result e.0).0 marked, e)

pub loop-row-preserved : goal.loop-row-preserved
loop-row-preserved c =
    let e = c.rows_of-rows.ensures.rows.sound _ (item_among c.rows_of-rows.result.now c.loop-row.row-index c.row-item.result c.row-item.is c.loop-row-test.true) in
    let here : ¬ IsMarked c.args.vertical.now c.row.inside.0 = search rules in
    let unmarked : ¬ IsMarked c.args.vertical.now c.row-item.result = subst (λ r. ¬ IsMarked c.args.vertical.now r) c.row.view_is here in
    each_more (λ r. ¬ IsMarked c.args.vertical.now r) c.rows_of-rows.result.now c.loop-row.row-index c.row-item.result c.loop-row.invariant c.loop-row-test.true (sym (get_or_read c.rows_of-rows.result.now c.loop-row.row-index c.row-item.result c.loop-row-test.true c.row-item.is 0)) unmarked

pub returns : goal.returns
returns c =
    let here : ¬ IsMarked c.args.horizontal.now c.col.inside.0 = search rules in
    let unmarked : ¬ IsMarked c.args.horizontal.now c.args.col = subst (λ r. ¬ IsMarked c.args.horizontal.now r) c.col.view_is here in
    (λ h. unmarked ((c.requires.horizontal.exact c.args.col c.requires.col).1 h), not_vertical _ _ c.loop-row.row-index c.rows_of-rows.result.now c.args.vertical.now c.requires.vertical c.rows_of-rows.ensures.rows c.loop-row.invariant c.loop-row-test.false)
