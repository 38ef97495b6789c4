use Rattle.std.proofs.Common.{◌∙◌, ap, IfErr, Err}
use Rattle.mm_defs.specs.Calls.{Intake}
use Rattle.sp_ports.specs.Device.{seen}
use Rattle.btf_tool.specs.Inputs as forms
use Rattle.btf_tool.specs.Refusals.{refusal_for}
use Rattle.btf_tool.specs.Runs.{IsUnread}
use Rattle.btf_tool.proofs.EditedAnswers.{counts_lines, edited_read, edits_not_read, seen_on}
use Rattle.btf_tool.proofs.FileAnswers.{file_not_read, followed_gave, has_read}
use Rattle.btf_tool.proofs.Jobs.{as_refusal}
use Rattle.btf_tool.proofs.reading.read_edited.Goals as goal

pub returns-in_err-triples-clause-unread : goal.returns-in_err-triples-clause-unread
returns-in_err-triples-clause-unread g c =
    let input = seen g.S.Source.left g.S.Source.faults c.args.input.now c.read_matrix.new.source in
    as_refusal c.from_residual-in_err-triples.result (refusal_for c.in_err-triples.field-0.0) (λ r. IfErr r (IsUnread forms.Edited input)) c.from_residual-in_err-triples.ensures.1
    (file_not_read forms.Edited input _ c.read_matrix.new.input.ahead c.in_err-triples.field-0.0 c.in_ok-bytes.ensures
    c.in_err-triples.ensures.tells.answer c.in_err-triples.ensures.tells.short c.in_err-triples.ensures.kind (λ e. c.in_err-triples.ensures.fares.cause.failed (ap Err e)))

pub returns-in_err-edits-clause-unread : goal.returns-in_err-edits-clause-unread
returns-in_err-edits-clause-unread g c =
    let input = seen g.S.Source.left g.S.Source.faults c.args.input.now c.read_edits.new.source in
    let mid = g.S.Source.left c.read_matrix.new.source in
    let m = c.in_ok-triples.ensures in
    as_refusal c.from_residual-in_err-edits.result (refusal_for c.in_err-edits.field-0.0) (λ r. IfErr r (IsUnread forms.Edited input)) c.from_residual-in_err-edits.ensures.1
    (edits_not_read input mid c.read_matrix.new.input (g.S.Source.faults c.read_matrix.new.source) c.in_ok-triples.triples c.in_err-edits.field-0.0
    (m.draws.asks.limit ∙ ap (λ (i : Intake). i.limit) c.in_ok-bytes.ensures)
    (seen_on (g.S.Source.left c.args.input.now) mid c.read_matrix.new.input c.in_ok-triples.triples (has_read _ _ _ _ _ _ _ c.in_ok-bytes.ensures m.tells.answer m.counts.taken) (counts_lines c.in_ok-bytes.bytes c.read_matrix.new.input (g.S.Source.left c.args.input.now) mid c.in_ok-bytes.ensures m.counts.lines))
    (rw (← c.rows-rows.ensures, ← c.cols-cols.ensures) c.in_err-edits.ensures.tells.answer)
    c.in_err-edits.ensures.draws.gave c.in_err-edits.ensures.gives.kind m.fares.cause.steady (λ e. c.in_err-edits.ensures.cause.failed (ap Err e)))

pub returns-clause-read : goal.returns-clause-read
returns-clause-read g c =
    let input = seen g.S.Source.left g.S.Source.faults c.args.input.now c.read_edits.new.source in
    let mid = g.S.Source.left c.read_matrix.new.source in
    let m = c.in_ok-triples.ensures in
    edited_read input mid c.read_matrix.new.input (g.S.Source.faults c.read_matrix.new.source) c.in_ok-triples.triples c.in_ok-edits.edits.items c.read_edits.new.input.ahead
    (m.draws.asks.limit ∙ ap (λ (i : Intake). i.limit) c.in_ok-bytes.ensures)
    (seen_on (g.S.Source.left c.args.input.now) mid c.read_matrix.new.input c.in_ok-triples.triples (has_read _ _ _ _ _ _ _ c.in_ok-bytes.ensures m.tells.answer m.counts.taken) (counts_lines c.in_ok-bytes.bytes c.read_matrix.new.input (g.S.Source.left c.args.input.now) mid c.in_ok-bytes.ensures m.counts.lines))
    (rw (← c.rows-rows.ensures, ← c.cols-cols.ensures) c.in_ok-edits.ensures.tells.answer)
    c.in_ok-edits.ensures.draws.gave m.fares.cause.steady (c.in_ok-edits.ensures.cause.steady ∙ m.fares.cause.steady) c.in_ok-edits.ensures.gives.said

pub returns-clause-gave : goal.returns-clause-gave
returns-clause-gave g c =
    let m = c.in_ok-triples.ensures in
    followed_gave (seen g.S.Source.left g.S.Source.faults c.args.input.now c.read_edits.new.source) (g.S.Source.left c.read_matrix.new.source) c.read_matrix.new.input
    (g.S.Source.faults c.read_matrix.new.source) c.in_ok-triples.triples
    (m.draws.asks.limit ∙ ap (λ (i : Intake). i.limit) c.in_ok-bytes.ensures)
    (has_read _ _ _ _ _ _ _ c.in_ok-bytes.ensures m.tells.answer m.counts.taken) m.draws.gave c.in_ok-edits.ensures.draws.gave c.in_ok-edits.ensures.draws.most

pub returns-in_err-edits-clause-gave : goal.returns-in_err-edits-clause-gave
returns-in_err-edits-clause-gave g c =
    let m = c.in_ok-triples.ensures in
    followed_gave (seen g.S.Source.left g.S.Source.faults c.args.input.now c.read_edits.new.source) (g.S.Source.left c.read_matrix.new.source) c.read_matrix.new.input
    (g.S.Source.faults c.read_matrix.new.source) c.in_ok-triples.triples
    (m.draws.asks.limit ∙ ap (λ (i : Intake). i.limit) c.in_ok-bytes.ensures)
    (has_read _ _ _ _ _ _ _ c.in_ok-bytes.ensures m.tells.answer m.counts.taken) m.draws.gave c.in_err-edits.ensures.draws.gave c.in_err-edits.ensures.draws.most
