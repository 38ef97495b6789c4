use Rattle.std.proofs.Common.{rules, ◌≡◌, ◌∙◌, ◌<◌, subst, sym}
use Rattle.bip_defs.specs.Lists.{Lists}
use Rattle.bip_defs.specs.Matrix.{IsEntry, Matrix}
use Rattle.edit_session.specs.Columns.{IsCounted}
use Rattle.edit_session.proofs.TransposeLemmas.{all_rows, next_row, row_few, transpose_counted}
use Rattle.edit_session.proofs.columns.Columns.of_rows.Goals as goal

pub push-requires : goal.push-requires
push-requires c = row_few c.args.pattern.now c.loop-row.row c.as_slice.result.now c.requires
    (subst (Lists (λ d. IsEntry c.args.pattern.now c.loop-row.row d)) (sym (c.as_slice.ensures.value ∙ c.in_ok-copy_numbers.ensures)) c.cols_of.ensures.cols)

pub loop-row-preserved : goal.loop-row-preserved
loop-row-preserved c =
    let row : c.loop-row.row < c.args.pattern.now.rows = search rules in
    rw c.in_ok-push.ensures.ok (next_row c.args.pattern.now c.loop-row.row c.loop-row.lists.lists c.as_slice.result.now row c.loop-row.invariant (c.as_slice.ensures.value ∙ (c.in_ok-copy_numbers.ensures ∙ c.cols_of.ensures.row_list)))

pub invariant_of-result : goal.invariant_of-result
invariant_of-result c =
    let all : c.loop-row.row ≡ c.args.pattern.now.rows = search rules in
    let same = all_rows c.args.pattern.now c.loop-row.row c.loop-row.lists.lists all c.loop-row.invariant in
    subst (λ (a : Matrix). IsCounted a c.entries-entries.result) (λ i. record { rows = (sym c.cols.ensures) i; columns = (sym same) i }) (transpose_counted c.args.pattern.now c.entries-entries.result c.requires (sym c.entries-entries.ensures))

pub returns : goal.returns
returns c =
    let all : c.loop-row.row ≡ c.args.pattern.now.rows = search rules in
    let same = all_rows c.args.pattern.now c.loop-row.row c.loop-row.lists.lists all c.loop-row.invariant in
    λ i. record { rows = c.cols.ensures i; columns = same i }
