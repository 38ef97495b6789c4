use Rattle.std.proofs.Common.{◌∙◌, refl, sym}
use Rattle.sp_ports.specs.Device.{seen}
use Rattle.btf_words.specs.declared.jobs.Job.TheVariants.{Edit}
use Rattle.btf_tool.specs.Runs.{JobSays}
use Rattle.btf_tool.specs.declared.answers.Answer.TheVariants.{Positive}
use Rattle.btf_tool.specs.declared.refusals.Refusal.TheVariants.{WriteFault}
use Rattle.btf_tool.proofs.Jobs.{as_refusal, job_not_written, job_written}
use Rattle.btf_tool.proofs.Sessions.{same_session}
use Rattle.btf_tool.proofs.edit_job.edit.Goals as goal

pub returns-in_err-hand_on-clause-says : goal.returns-in_err-hand_on-clause-says
returns-in_err-hand_on-clause-says g c =
    let a = c.in_ok-pattern.pattern in
    let (rest, read, edits_are) = c.in_ok-file.ensures.read in
    let session = same_session a (c.as_slice.ensures.value ∙ edits_are) (sym c.as_slice-2.ensures.value) c.in_ok-replies.ensures in
    let input = seen g.S.Source.left g.S.Source.faults c.args.input.now c.read_edited.new.input in
    let out = seen g.O.Sink.taken g.O.Sink.faults c.args.out.now c.hand_on.new.out in
    as_refusal _ WriteFault (JobSays Edit input out) c.from_residual-in_err-hand_on.ensures.1
    (job_not_written Edit Positive input out _ c.in_ok-file.file.triples rest a tt read c.in_ok-file.ensures.limits c.in_ok-file.ensures.counts
    (λ needs. absurd needs) c.in_ok-pattern.ensures c.is_pattern.ensures (refl, session) (c.in_err-hand_on.ensures _ _ _ c.write_replies-written.ensures))

pub returns-clause-says : goal.returns-clause-says
returns-clause-says g c =
    let a = c.in_ok-pattern.pattern in
    let (rest, read, edits_are) = c.in_ok-file.ensures.read in
    let session = same_session a (c.as_slice.ensures.value ∙ edits_are) (sym c.as_slice-2.ensures.value) c.in_ok-replies.ensures in
    let input = seen g.S.Source.left g.S.Source.faults c.args.input.now c.read_edited.new.input in
    let out = seen g.O.Sink.taken g.O.Sink.faults c.args.out.now c.hand_on.new.out in
    job_written Edit Positive input out _ c.in_ok-file.file.triples rest a tt read c.in_ok-file.ensures.limits
    (λ needs. absurd needs) c.in_ok-pattern.ensures c.is_pattern.ensures (refl, session) (c.in_ok-hand_on.ensures _ _ _ c.write_replies-written.ensures)
