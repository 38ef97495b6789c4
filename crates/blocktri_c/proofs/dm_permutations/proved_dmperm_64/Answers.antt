use Rattle.std.proofs.Common.{rules, FitsSigned}
use Rattle.std.specs.Int.{w32}
use Rattle.std.proofs.lemmas.Int.{to_z-of_z}
use Rattle.blocktri.specs.Dmperm.{HaveDmpermRoom, dmperm_lists}
use Rattle.blocktri_c.specs.FormStatuses.{wants_of}
use Rattle.blocktri_c.specs.Statuses.{lists_of}
use Rattle.blocktri_c.proofs.StatusLemmas.{dmperm_answered, fault_told}
use Rattle.blocktri_c.proofs.dm_permutations.proved_dmperm_64.Goals as goal

pub returns-in-Ok-clause-answers : goal.returns-in-Ok-clause-answers
returns-in-Ok-clause-answers c =
    let found = rw (c.wide.ensures, c.wants.ensures) at c.in-Ok.ensures.found in
    let refused = rw c.wide.ensures at c.in-Ok.ensures.refused in
    dmperm_answered (lists_of c.args.others c.args.starts.now c.args.ids.now c.args.by_rows) (wants_of c.args.wants_blocks c.args.wants_components) c.in-Ok.found c.form_sizes.result c.args.sizes.now
    (dmperm_lists c.args.p.now c.args.q.now c.args.r.now c.args.s.now c.args.row_of_column.now c.args.row_component.now c.args.column_component.now)
    (dmperm_lists c.dmperm.new.p c.dmperm.new.q c.dmperm.new.r c.dmperm.new.s c.dmperm.new.row_of_column c.dmperm.new.row_component c.dmperm.new.column_component) found refused.fit c.form_sizes.ensures

pub returns-in-Err-clause-fault : goal.returns-in-Err-clause-fault
returns-in-Err-clause-fault c =
    let fits : FitsSigned w32 c.status.result = search rules in
    let status = c.status.ensures in
    let refused = rw c.wide.ensures at c.in-Err.ensures.refused in
    rw (to_z-of_z w32 c.status.result fits) (fault_told (HaveDmpermRoom (lists_of c.args.others c.args.starts.now c.args.ids.now c.args.by_rows) (dmperm_lists c.args.p.now c.args.q.now c.args.r.now c.args.s.now c.args.row_of_column.now c.args.row_component.now c.args.column_component.now)) (lists_of c.args.others c.args.starts.now c.args.ids.now c.args.by_rows) c.in-Err.refusal c.status.result c.args.fault.now c.status.new.fault status.status status.refused status.fault refused.cause)
