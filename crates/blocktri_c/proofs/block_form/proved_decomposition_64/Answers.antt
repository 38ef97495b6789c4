use Rattle.blocktri.specs.Forms.{form_lists}
use Rattle.blocktri_c.specs.FormStatuses.{wants_of}
use Rattle.blocktri_c.specs.Statuses.{lists_of}
use Rattle.blocktri_c.proofs.StatusLemmas.{form_answered}
use Rattle.blocktri_c.proofs.block_form.proved_decomposition_64.Goals as goal

pub returns-in-Ok-clause-answers : goal.returns-in-Ok-clause-answers
returns-in-Ok-clause-answers c =
    let found = rw (c.wide.ensures, c.wants.ensures) at c.in-Ok.ensures.found in
    let refused = rw c.wide.ensures at c.in-Ok.ensures.refused in
    form_answered (lists_of c.args.others c.args.starts.now c.args.ids.now c.args.by_rows) (wants_of c.args.wants_blocks c.args.wants_components) c.in-Ok.found c.form_sizes.result c.args.sizes.now
    (form_lists c.args.row_order.now c.args.column_order.now c.args.block_starts.now c.args.row_component.now c.args.column_component.now)
    (form_lists c.decomposition.new.row_order c.decomposition.new.column_order c.decomposition.new.block_starts c.decomposition.new.row_component c.decomposition.new.column_component) found refused.fit c.form_sizes.ensures
