use Rattle.std.proofs.Common.{List, ℕ, [], refl}
use Rattle.sp_ports.specs.Device.{Took, TookPrefix, seen}
use Rattle.btf_words.specs.declared.jobs.Job.TheVariants.{Rank}
use Rattle.btf_tool.specs.Runs.{JobSays}
use Rattle.btf_tool.specs.declared.answers.Answer.TheVariants.{Positive}
use Rattle.btf_tool.specs.declared.refusals.Refusal.TheVariants.{WriteFault}
use Rattle.btf_tool.proofs.Jobs.{as_refusal, job_not_written, job_written, rank_answers, same_text}
use Rattle.btf_tool.proofs.rank_job.rank.Goals as goal

pub returns-in_err-hand_on-clause-says : goal.returns-in_err-hand_on-clause-says
returns-in_err-hand_on-clause-says g c =
    let job = Rank c.args.drop_zeros in
    let input = seen g.S.Source.left g.S.Source.faults c.args.input.now c.read_file.new.input in
    let out = seen g.O.Sink.taken g.O.Sink.faults c.args.out.now c.hand_on.new.out in
    as_refusal _ WriteFault (JobSays job input out) c.from_residual-in_err-hand_on.ensures.1
    (job_not_written job Positive input out _ c.in_ok-triples.triples [] _ tt c.in_ok-triples.ensures.read c.in_ok-triples.ensures.limits c.in_ok-triples.ensures.counts
    c.in_ok-pattern.ensures.fit c.in_ok-pattern.ensures.matrix c.in_ok-pattern.ensures.fits (refl, rank_answers _ _ _ _ c.in_ok-answer.ensures)
    (same_text (λ (t : List ℕ). TookPrefix out t) _ _ _ _ _ _ c.as_slice-rows.ensures.value c.as_slice-cols.ensures.value
    (c.in_err-hand_on.ensures _ _ _ c.write_rank-written.ensures)))

pub returns-clause-says : goal.returns-clause-says
returns-clause-says g c =
    let input = seen g.S.Source.left g.S.Source.faults c.args.input.now c.read_file.new.input in
    let out = seen g.O.Sink.taken g.O.Sink.faults c.args.out.now c.hand_on.new.out in
    job_written (Rank c.args.drop_zeros) Positive input out _ c.in_ok-triples.triples [] _ tt c.in_ok-triples.ensures.read c.in_ok-triples.ensures.limits
    c.in_ok-pattern.ensures.fit c.in_ok-pattern.ensures.matrix c.in_ok-pattern.ensures.fits (refl, rank_answers _ _ _ _ c.in_ok-answer.ensures)
    (same_text (λ (t : List ℕ). Took out t) _ _ _ _ _ _ c.as_slice-rows.ensures.value c.as_slice-cols.ensures.value
    (c.in_ok-hand_on.ensures _ _ _ c.write_rank-written.ensures))
