use Rattle.std.proofs.Common.{◌∙◌, ap, IfErr, Err}
use Rattle.mm_defs.specs.Calls.{Intake}
use Rattle.sp_ports.specs.Device.{seen}
use Rattle.btf_tool.specs.Inputs as forms
use Rattle.btf_tool.specs.Refusals.{refusal_for}
use Rattle.btf_tool.specs.Runs.{IsUnread}
use Rattle.btf_tool.proofs.FileAnswers.{file_gave, file_not_read, followed_gave, followed_read, has_read, rest_not_read}
use Rattle.btf_tool.proofs.Jobs.{as_refusal}
use Rattle.btf_tool.proofs.reading.read_followed.Goals as goal

pub returns-in_err-triples-clause-unread : goal.returns-in_err-triples-clause-unread
returns-in_err-triples-clause-unread g c =
    as_refusal c.from_residual-in_err-triples.result (refusal_for c.in_err-triples.field-0.0) (λ r. IfErr r (IsUnread forms.Followed (seen g.S.Source.left g.S.Source.faults c.args.input.now c.read_matrix.new.source)))
    c.from_residual-in_err-triples.ensures.1
    (file_not_read forms.Followed (seen g.S.Source.left g.S.Source.faults c.args.input.now c.read_matrix.new.source) _ c.read_matrix.new.input.ahead c.in_err-triples.field-0.0 c.in_ok-bytes.ensures
    c.in_err-triples.ensures.tells.answer c.in_err-triples.ensures.tells.short c.in_err-triples.ensures.kind (λ e. c.in_err-triples.ensures.fares.cause.failed (ap Err e)))

pub returns-clause-read : goal.returns-clause-read
returns-clause-read g c =
    followed_read (seen g.S.Source.left g.S.Source.faults c.args.input.now c.read_rest.new.source) (g.S.Source.left c.read_matrix.new.source) c.read_matrix.new.input
    (g.S.Source.faults c.read_matrix.new.source) c.in_ok-triples.triples _ c.read_rest.new.input.ahead
    (c.in_ok-triples.ensures.draws.asks.limit ∙ ap (λ (i : Intake). i.limit) c.in_ok-bytes.ensures)
    (has_read _ _ _ _ _ _ _ c.in_ok-bytes.ensures c.in_ok-triples.ensures.tells.answer c.in_ok-triples.ensures.counts.taken)
    c.in_ok-rest.ensures.answer
    (c.in_ok-rest.ensures.fares.cause.steady ∙ c.in_ok-triples.ensures.fares.cause.steady)

pub returns-in_err-rest-clause-unread : goal.returns-in_err-rest-clause-unread
returns-in_err-rest-clause-unread g c =
    as_refusal c.from_residual-in_err-rest.result (refusal_for c.in_err-rest.field-0.0) (λ r. IfErr r (IsUnread forms.Followed (seen g.S.Source.left g.S.Source.faults c.args.input.now c.read_rest.new.source)))
    c.from_residual-in_err-rest.ensures.1
    (rest_not_read (seen g.S.Source.left g.S.Source.faults c.args.input.now c.read_rest.new.source) (g.S.Source.left c.read_matrix.new.source) c.read_matrix.new.input
    (g.S.Source.faults c.read_matrix.new.source) c.in_ok-triples.triples c.in_err-rest.ensures.draws.gave.0 c.in_err-rest.field-0.0
    (c.in_ok-triples.ensures.draws.asks.limit ∙ ap (λ (i : Intake). i.limit) c.in_ok-bytes.ensures)
    (has_read _ _ _ _ _ _ _ c.in_ok-bytes.ensures c.in_ok-triples.ensures.tells.answer c.in_ok-triples.ensures.counts.taken)
    c.in_err-rest.ensures.answer c.in_err-rest.ensures.unjudged c.in_err-rest.ensures.draws.gave.1 c.in_ok-triples.ensures.fares.cause.steady
    (λ e. c.in_err-rest.ensures.fares.cause.failed (ap Err e)))

pub returns-in_err-triples-clause-gave : goal.returns-in_err-triples-clause-gave
returns-in_err-triples-clause-gave g c =
    file_gave (seen g.S.Source.left g.S.Source.faults c.args.input.now c.read_matrix.new.source) _ c.in_ok-bytes.ensures c.in_err-triples.ensures.draws.gave c.in_err-triples.ensures.draws.most

pub returns-clause-gave : goal.returns-clause-gave
returns-clause-gave g c =
    followed_gave (seen g.S.Source.left g.S.Source.faults c.args.input.now c.read_rest.new.source) (g.S.Source.left c.read_matrix.new.source) c.read_matrix.new.input
    (g.S.Source.faults c.read_matrix.new.source) c.in_ok-triples.triples
    (c.in_ok-triples.ensures.draws.asks.limit ∙ ap (λ (i : Intake). i.limit) c.in_ok-bytes.ensures)
    (has_read _ _ _ _ _ _ _ c.in_ok-bytes.ensures c.in_ok-triples.ensures.tells.answer c.in_ok-triples.ensures.counts.taken)
    c.in_ok-triples.ensures.draws.gave c.in_ok-rest.ensures.draws.gave c.in_ok-rest.ensures.draws.most

pub returns-in_err-rest-clause-gave : goal.returns-in_err-rest-clause-gave
returns-in_err-rest-clause-gave g c =
    followed_gave (seen g.S.Source.left g.S.Source.faults c.args.input.now c.read_rest.new.source) (g.S.Source.left c.read_matrix.new.source) c.read_matrix.new.input
    (g.S.Source.faults c.read_matrix.new.source) c.in_ok-triples.triples
    (c.in_ok-triples.ensures.draws.asks.limit ∙ ap (λ (i : Intake). i.limit) c.in_ok-bytes.ensures)
    (has_read _ _ _ _ _ _ _ c.in_ok-bytes.ensures c.in_ok-triples.ensures.tells.answer c.in_ok-triples.ensures.counts.taken)
    c.in_ok-triples.ensures.draws.gave c.in_err-rest.ensures.draws.gave c.in_err-rest.ensures.draws.most
