use Rattle.std.proofs.Common.{arith, map}
use Rattle.std.proofs.lemmas.List.{length-map}
use Rattle.bip_defs.specs.Matrix.{cols}
use Rattle.bip_defs.proofs.Full.{few_below}
use Rattle.bip_defs.proofs.Sets.{rising_distinct}
use Rattle.bip_defs.proofs.Slices.{number_at, number_read}
use Rattle.outer_components.proofs.LabelLemmas.{labelled}
use Rattle.outer_components.proofs.MergeLemmas.{labels_end, labels_fit, labels_start}
use Rattle.outer_components.proofs.labels.label_all.Goals as goal

pub loop-at-init : goal.loop-at-init
loop-at-init g c = labels_start (g.L.ColumnLists.matrix c.args.lists) (map g.N.Id.number c.args.columns.now) c.new-contacts.result c.args.row_labels.now c.args.col_labels.now c.requires.columns c.new-contacts.ensures.count c.new-contacts.ensures.empty c.requires.rows c.requires.cols

pub merge_if_many-requires : goal.merge_if_many-requires
merge_if_many-requires g c = labels_fit _ _ _ _ _ _ c.loop-at.invariant

pub label_column-requires-clause-listed : goal.label_column-requires-clause-listed
label_column-requires-clause-listed g c = c.are_listed.ensures

pub label_column-requires-clause-col : goal.label_column-requires-clause-col
label_column-requires-clause-col g c = (c.requires.columns.sound _ (number_read g.N.Id.number _ c.args.columns.now _ _ c.loop-at-test.true c.index-columns-at.is c.number.ensures)).0

pub label_column-requires-clause-few : goal.label_column-requires-clause-few
label_column-requires-clause-few g c =
    let x = c.in_ok-merge_if_many.ensures _ _ _ c.loop-at.invariant in
    let le = x.few in
    let all = few_below (cols (g.L.ColumnLists.matrix c.args.lists)) (map g.N.Id.number c.args.columns.now) (rising_distinct _ c.requires.columns.rising) (λ k on. (c.requires.columns.sound k on).0) in
    let few = c.are_listed.ensures.few_cols in
    omega (arith, le, all, few, length-map c.args.columns.now g.N.Id.number, c.loop-at-test.true)

pub label_column-requires-clause-fit : goal.label_column-requires-clause-fit
label_column-requires-clause-fit g c = labels_fit _ _ _ _ _ _ (c.in_ok-merge_if_many.ensures _ _ _ c.loop-at.invariant)

pub label_column-requires-clause-long_rows : goal.label_column-requires-clause-long_rows
label_column-requires-clause-long_rows g c = (c.in_ok-merge_if_many.ensures _ _ _ c.loop-at.invariant).long_rows

pub label_column-requires-clause-long_cols : goal.label_column-requires-clause-long_cols
label_column-requires-clause-long_cols g c = (c.in_ok-merge_if_many.ensures _ _ _ c.loop-at.invariant).long_cols

pub loop-at-preserved : goal.loop-at-preserved
loop-at-preserved g c =
    let x = c.in_ok-merge_if_many.ensures _ _ _ c.loop-at.invariant in
    let le = x.few in
    let all = few_below (cols (g.L.ColumnLists.matrix c.args.lists)) (map g.N.Id.number c.args.columns.now) (rising_distinct _ c.requires.columns.rising) (λ k on. (c.requires.columns.sound k on).0) in
    let few = c.are_listed.ensures.few_cols in
    let is = number_at g.N.Id.number _ c.args.columns.now _ _ 0 c.loop-at-test.true c.index-columns-at.is c.number.ensures in
    labelled _ _ _ _ _ _ _ _ _ _ x (omega (arith, length-map c.args.columns.now g.N.Id.number, c.loop-at-test.true)) is (omega (arith, le, all, few, length-map c.args.columns.now g.N.Id.number, c.loop-at-test.true)) c.in_ok-label_column.ensures

pub merge-requires : goal.merge-requires
merge-requires g c = labels_fit _ _ _ _ _ _ c.loop-at.invariant

pub returns : goal.returns
returns g c = labels_end _ _ _ _ _ _ (c.in_ok-merge.ensures.kept _ _ _ c.loop-at.invariant) c.in_ok-merge.ensures.empty (omega (arith, length-map c.args.columns.now g.N.Id.number, c.loop-at-test.false))
