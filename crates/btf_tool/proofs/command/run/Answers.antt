use Rattle.std.proofs.Common.{refl, ap, Err, ◌∙◌}
use Rattle.sp_ports.specs.Device.{seen}
use Rattle.btf_tool.proofs.Completeness.{fulfils, job_counts, job_done, job_not_done, line_counts, made_named, named, untouched_gave, untouched_counts, words_refused}
use Rattle.btf_tool.proofs.command.run.Goals as goal

pub returns-in-Err-clause-status : goal.returns-in-Err-clause-status
returns-in-Err-clause-status g c = fulfils c.one_verdict.ensures c.full_matching_shows_rank.ensures.rank _ _ (
    words_refused _ c.in-Err.error c.from.result _ c.from.ensures (λ usage. c.read_words.ensures.usage (c.in-Err.is ∙ ap Err usage)) (refl, refl) (refl, refl)
    c.refuse.ensures.status c.refuse.ensures.line)

pub returns-in-Ok-perform-clause-status : goal.returns-in-Ok-perform-clause-status
returns-in-Ok-perform-clause-status g c = fulfils c.one_verdict.ensures c.full_matching_shows_rank.ensures.rank _ _ (
    job_done _ c.in-Ok.job _ _ _ c.in-Ok-perform.is (named _ _ _ c.in-Ok.is c.read_words.ensures.taken c.read_words.ensures.job) c.perform.ensures.says c.status.ensures (refl, refl))

pub returns-in-Err-perform-clause-status : goal.returns-in-Err-perform-clause-status
returns-in-Err-perform-clause-status g c = fulfils c.one_verdict.ensures c.full_matching_shows_rank.ensures.rank _ _ (
    job_not_done _ c.in-Ok.job _ _ _ c.in-Err-perform.is (named _ _ _ c.in-Ok.is c.read_words.ensures.taken c.read_words.ensures.job) c.perform.ensures.says
    c.refuse-in-Err-perform.ensures.status c.refuse-in-Err-perform.ensures.line)

pub returns-in-Err-clause-unread : goal.returns-in-Err-clause-unread
returns-in-Err-clause-unread g c = λ maker. (refl, refl)

pub returns-in-Ok-perform-clause-unread : goal.returns-in-Ok-perform-clause-unread
returns-in-Ok-perform-clause-unread g c = λ maker.
    c.perform.ensures.unread (made_named _ c.in-Ok.job (named _ _ _ c.in-Ok.is c.read_words.ensures.taken c.read_words.ensures.job) maker)

pub returns-in-Err-perform-clause-unread : goal.returns-in-Err-perform-clause-unread
returns-in-Err-perform-clause-unread g c = λ maker.
    c.perform.ensures.unread (made_named _ c.in-Ok.job (named _ _ _ c.in-Ok.is c.read_words.ensures.taken c.read_words.ensures.job) maker)

pub returns-in-Err-clause-gave : goal.returns-in-Err-clause-gave
returns-in-Err-clause-gave g c = untouched_gave (seen g.S.Source.left g.S.Source.faults c.args.input.now c.args.input.now) (refl, refl)

pub returns-in-Err-clause-input_count : goal.returns-in-Err-clause-input_count
returns-in-Err-clause-input_count g c = untouched_counts (seen g.S.Source.left g.S.Source.faults c.args.input.now c.args.input.now) (refl, refl)

pub returns-in-Err-clause-out_count : goal.returns-in-Err-clause-out_count
returns-in-Err-clause-out_count g c = untouched_counts (seen g.O.Sink.taken g.O.Sink.faults c.args.out.now c.args.out.now) (refl, refl)

pub returns-in-Err-clause-err_count : goal.returns-in-Err-clause-err_count
returns-in-Err-clause-err_count g c = line_counts _ _ c.refuse.ensures.line

pub returns-in-Ok-perform-clause-input_count : goal.returns-in-Ok-perform-clause-input_count
returns-in-Ok-perform-clause-input_count g c = (job_counts c.in-Ok.job _ _ _ c.perform.ensures.says).0

pub returns-in-Ok-perform-clause-out_count : goal.returns-in-Ok-perform-clause-out_count
returns-in-Ok-perform-clause-out_count g c = (job_counts c.in-Ok.job _ _ _ c.perform.ensures.says).1

pub returns-in-Err-perform-clause-input_count : goal.returns-in-Err-perform-clause-input_count
returns-in-Err-perform-clause-input_count g c = (job_counts c.in-Ok.job _ _ _ c.perform.ensures.says).0

pub returns-in-Err-perform-clause-out_count : goal.returns-in-Err-perform-clause-out_count
returns-in-Err-perform-clause-out_count g c = (job_counts c.in-Ok.job _ _ _ c.perform.ensures.says).1

pub returns-in-Ok-perform-clause-err_count : goal.returns-in-Ok-perform-clause-err_count
returns-in-Ok-perform-clause-err_count g c = untouched_counts (seen g.E.Sink.taken g.E.Sink.faults c.args.err.now c.args.err.now) (refl, refl)

pub returns-in-Err-perform-clause-err_count : goal.returns-in-Err-perform-clause-err_count
returns-in-Err-perform-clause-err_count g c = line_counts _ _ c.refuse-in-Err-perform.ensures.line
