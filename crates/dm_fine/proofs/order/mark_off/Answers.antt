use Rattle.std.proofs.Common.{◌∙◌, sym, subst, arith}
use Rattle.bip_defs.proofs.Sets.{among_at}
use Rattle.std.proofs.lemmas.List.{get_or_read}
use Rattle.bip_defs.specs.Lists.{Among}
use Rattle.dm_fine.proofs.MarkLemmas.{gone_more, others_more}
use Rattle.dm_fine.proofs.order.mark_off.Goals as goal

pub bounds-of_rows-row-inside : goal.bounds-of_rows-row-inside
bounds-of_rows-row-inside c =
    let is = get_or_read c.args.rows.now c.loop-row.row-index c.row-item.result c.loop-row-test.true c.row-item.is 0 in
    let lt = c.requires c.row-item.result (subst (λ x. Among x c.args.rows.now) (sym is) (among_at c.args.rows.now c.loop-row.row-index 0 c.loop-row-test.true)) in
    let same = c.row.view_is in
    let long = c.loop-row.auto.of_rows in
    omega (arith, lt, same, long)

pub loop-row-preserved : goal.loop-row-preserved
loop-row-preserved c =
    let is = get_or_read c.args.rows.now c.loop-row.row-index c.row-item.result c.loop-row-test.true c.row-item.is 0 in
    let lt = c.requires c.row-item.result (subst (λ x. Among x c.args.rows.now) (sym is) (among_at c.args.rows.now c.loop-row.row-index 0 c.loop-row-test.true)) in
    let same = c.row.view_is in
    let long = c.loop-row.auto.of_rows in
    let item = c.row.view_is ∙ c.row-item.is in
    record {
      gone = λ r h. gone_more c.args.rows.now c.loop-row.of_rows c.loop-row.row-index c.row-item.result c.row.inside.0 r c.loop-row-test.true item (omega (arith, lt, same, long)) c.loop-row.invariant.gone h;
      others = λ r h. others_more c.args.rows.now c.args.of_rows.now c.loop-row.of_rows c.loop-row.row-index c.row-item.result c.row.inside.0 r c.loop-row-test.true item c.loop-row.invariant.others h;
    }
