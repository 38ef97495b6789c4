use Rattle.std.proofs.Common.{ap, sym, subst}
use Rattle.mm_frames.specs.Batches.{files_of}
use Rattle.sp_ports.specs.Device.{Took, TookPrefix, seen}
use Rattle.btf_tool.specs.declared.answers.Answer.{Answer}
use Rattle.batch_core.specs.BatchRuns.{BatchSays, WithAnswer}
use Rattle.batch_core.specs.BatchText.{answer_of}
use Rattle.batch_core.specs.declared.refusals.BatchRefusal.TheVariants.{WriteFault}
use Rattle.batch_core.proofs.BatchOutcomes.{with_answers}
use Rattle.batch_core.proofs.BatchReadings.{as_refusal}
use Rattle.batch_core.proofs.run.perform.Goals as goal

pub returns-in_err-write_answers-clause-says : goal.returns-in_err-write_answers-clause-says
returns-in_err-write_answers-clause-says g c =
    let input = seen g.S.Source.left g.S.Source.faults c.args.input.now c.read_batch.new.input in
    let out = seen g.O.Sink.taken g.O.Sink.faults c.args.out.now c.write_answers.new.out in
    let took : TookPrefix out _ = c.in_err-write_answers.ensures in
    as_refusal _ WriteFault (BatchSays input out) c.from_residual-in_err-write_answers.ensures.1 (
      c.in_ok-files.ensures.counts,
      took.counts,
      (
        took.fault,
        c.in_ok-files.ensures.steady,
        (
          answer_of c.slots-slots.result.now,
          with_answers input (files_of c.in_ok-files.files.items) (files_of c.as_slice.result.now) c.in_ok-answers.answers c.slots-slots.result.now (TookPrefix out)
              c.in_ok-files.ensures.read c.in_ok-files.ensures.limits c.in_ok-answers.ensures.files (ap files_of c.as_slice.ensures.value) c.slots-slots.ensures.answers c.in_ok-answers.ensures.full
              c.slots-slots.ensures.slots took,
        ),
      ),
    )

pub returns-clause-says : goal.returns-clause-says
returns-clause-says g c =
    let input = seen g.S.Source.left g.S.Source.faults c.args.input.now c.read_batch.new.input in
    let out = seen g.O.Sink.taken g.O.Sink.faults c.args.out.now c.write_answers.new.out in
    let took : Took out _ = c.in_ok-write_answers.ensures in (
      c.in_ok-files.ensures.steady,
      took.steady,
      subst (λ (answer : Answer). WithAnswer answer input (Took out)) (sym c.answer_of.ensures)
          (with_answers input (files_of c.in_ok-files.files.items) (files_of c.as_slice.result.now) c.in_ok-answers.answers c.slots-slots.result.now (Took out)
          c.in_ok-files.ensures.read c.in_ok-files.ensures.limits c.in_ok-answers.ensures.files (ap files_of c.as_slice.ensures.value) c.slots-slots.ensures.answers c.in_ok-answers.ensures.full
          c.slots-slots.ensures.slots took),
    )
