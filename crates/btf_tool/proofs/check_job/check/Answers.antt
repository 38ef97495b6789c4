use Rattle.std.proofs.Common.{List, ℕ, subst}
use Rattle.sp_ports.specs.Device.{seen}
use Rattle.btf_check.specs.Verdicts.{IsVerdict}
use Rattle.btf_words.specs.declared.jobs.Job.TheVariants.{Check}
use Rattle.btf_tool.specs.VerdictText.{answer_of}
use Rattle.btf_tool.specs.Runs.{JobSays}
use Rattle.btf_tool.specs.declared.refusals.Refusal.TheVariants.{WriteFault}
use Rattle.btf_tool.proofs.Jobs.{as_refusal, job_not_written, job_written, verdict_answers}
use Rattle.btf_tool.proofs.check_job.check.Goals as goal

pub returns-in_err-hand_on-clause-says : goal.returns-in_err-hand_on-clause-says
returns-in_err-hand_on-clause-says g c =
    let job = Check c.args.drop_zeros in
    let input = seen g.S.Source.left g.S.Source.faults c.args.input.now c.read_followed.new.input in
    let out = seen g.O.Sink.taken g.O.Sink.faults c.args.out.now c.hand_on.new.out in
    let verdict : IsVerdict c.in_ok-pattern.pattern c.in_ok-file.file.rest.items c.in_ok-verdict.verdict =
    subst (λ (bytes : List ℕ). IsVerdict c.in_ok-pattern.pattern bytes c.in_ok-verdict.verdict) c.as_slice.ensures.value c.in_ok-verdict.ensures in
    as_refusal _ WriteFault (JobSays job input out) c.from_residual-in_err-hand_on.ensures.1
    (job_not_written job (answer_of c.in_ok-verdict.verdict) input out _ c.in_ok-file.file.triples c.in_ok-file.file.rest.items c.in_ok-pattern.pattern tt
    c.in_ok-file.ensures.read c.in_ok-file.ensures.limits c.in_ok-file.ensures.counts c.in_ok-pattern.ensures.fit c.in_ok-pattern.ensures.matrix c.in_ok-pattern.ensures.fits
    (verdict_answers c.in_ok-pattern.pattern c.in_ok-file.file.rest.items c.in_ok-verdict.verdict verdict)
    (c.in_err-hand_on.ensures _ _ _ c.write_verdict-written.ensures))

pub returns-clause-says : goal.returns-clause-says
returns-clause-says g c =
    let input = seen g.S.Source.left g.S.Source.faults c.args.input.now c.read_followed.new.input in
    let out = seen g.O.Sink.taken g.O.Sink.faults c.args.out.now c.hand_on.new.out in
    let verdict : IsVerdict c.in_ok-pattern.pattern c.in_ok-file.file.rest.items c.in_ok-verdict.verdict =
    subst (λ (bytes : List ℕ). IsVerdict c.in_ok-pattern.pattern bytes c.in_ok-verdict.verdict) c.as_slice.ensures.value c.in_ok-verdict.ensures in
    rw c.answer_of.ensures
    (job_written (Check c.args.drop_zeros) (answer_of c.in_ok-verdict.verdict) input out _ c.in_ok-file.file.triples c.in_ok-file.file.rest.items c.in_ok-pattern.pattern tt
    c.in_ok-file.ensures.read c.in_ok-file.ensures.limits c.in_ok-pattern.ensures.fit c.in_ok-pattern.ensures.matrix c.in_ok-pattern.ensures.fits
    (verdict_answers c.in_ok-pattern.pattern c.in_ok-file.file.rest.items c.in_ok-verdict.verdict verdict)
    (c.in_ok-hand_on.ensures _ _ _ c.write_verdict-written.ensures))
