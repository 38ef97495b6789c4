use Rattle.std.proofs.Common.{◌≡◌, ◌∙◌, arith, sym}
use Rattle.std.proofs.lemmas.List.{get_or_read}
use Rattle.least_match.proofs.PartLemmas.{given_more}
use Rattle.least_match.proofs.SearchLemmas.{item_among}
use Rattle.least_match.proofs.parts.give.Goals as goal

pub bounds-parts-col-inside : goal.bounds-parts-col-inside
bounds-parts-col-inside c =
    let below = c.requires.cols _ (item_among c.args.cols.now c.loop-col.col-index c.col-item.result c.col-item.is c.loop-col-test.true) in
    let is : c.col.inside.0 ≡ c.col-item.result = c.col.view_is in
    let long = c.loop-col.invariant.long in
    omega (arith, below, is, long)

pub loop-col-preserved : goal.loop-col-preserved
loop-col-preserved c =
    let below = c.requires.cols _ (item_among c.args.cols.now c.loop-col.col-index c.col-item.result c.col-item.is c.loop-col-test.true) in
    let is : c.col.inside.0 ≡ c.col-item.result = c.col.view_is in
    given_more c.args.parts.now c.loop-col.parts c.args.cols.now c.args.part c.loop-col.col-index c.col.inside.0 c.loop-col.invariant c.loop-col-test.true (sym (get_or_read c.args.cols.now c.loop-col.col-index c.col-item.result c.loop-col-test.true c.col-item.is 0) ∙ sym is) (omega (arith, below, is))
