use Rattle.std.proofs.Common.{◌++◌, ap, subst, IfErr, Ok, Err}
use Rattle.sp_ports.specs.Bytes.{WhereKnown}
use Rattle.sp_ports.specs.Device.{seen}
use Rattle.mm_defs.specs.Calls.{Intake, IsAnswer, call_on, room}
use Rattle.mm_defs.specs.declared.answers.End.TheVariants.{File}
use Rattle.btf_tool.specs.Inputs as forms
use Rattle.btf_tool.specs.Refusals.{refusal_for}
use Rattle.btf_tool.specs.Runs.{IsUnread}
use Rattle.btf_tool.proofs.FileAnswers.{file_not_read, file_read}
use Rattle.btf_tool.proofs.Jobs.{as_refusal}
use Rattle.btf_tool.proofs.reading.read_file.Goals as goal

pub returns-clause-read : goal.returns-clause-read
returns-clause-read g c =
    let e = c.in_ok-read_matrix.ensures in
    file_read (seen g.S.Source.left g.S.Source.faults c.args.input.now c.read_matrix.new.source) c.read_matrix.new.input.ahead c.in_ok-read_matrix.field-0
    (subst (λ (i : Intake). WhereKnown (g.S.Source.left c.args.input.now) (g.S.Source.left c.read_matrix.new.source)
    (λ before after. IsAnswer File (call_on (room i) i.ahead (g.S.Source.faults c.args.input.now) (g.S.Source.faults c.read_matrix.new.source) before after) (c.read_matrix.new.input.ahead ++ after) (Ok c.in_ok-read_matrix.field-0)))
    c.in_ok-bytes.ensures e.tells.answer)
    e.fares.cause.steady

pub returns-in_err-read_matrix-clause-unread : goal.returns-in_err-read_matrix-clause-unread
returns-in_err-read_matrix-clause-unread g c =
    let e = c.in_err-read_matrix.ensures in
    let input = seen g.S.Source.left g.S.Source.faults c.args.input.now c.read_matrix.new.source in
    as_refusal c.from_residual-in_err-read_matrix.result (refusal_for c.in_err-read_matrix.field-0.0) (λ r. IfErr r (IsUnread forms.Alone input)) c.from_residual-in_err-read_matrix.ensures.1
    (file_not_read forms.Alone input _ c.read_matrix.new.input.ahead c.in_err-read_matrix.field-0.0 c.in_ok-bytes.ensures
    e.tells.answer e.tells.short e.kind (λ x. e.fares.cause.failed (ap Err x)))
