use Rattle.std.proofs.Common.{◌≡◌, ◌∙◌, [], sym}
use Rattle.sp_ids.specs.declared.triples.Field.TheVariants.{Integer}
use Rattle.sp_ports.specs.Device.{seen}
use Rattle.btf_words.specs.declared.jobs.Job.TheVariants.{Diagonal}
use Rattle.btf_tool.specs.Diagonals.{answer_on}
use Rattle.btf_tool.specs.Runs.{JobSays}
use Rattle.btf_tool.specs.declared.refusals.Refusal.TheVariants.{WriteFault}
use Rattle.btf_tool.proofs.Diagonals.{heaviest_entries}
use Rattle.btf_tool.proofs.Jobs.{as_refusal, diagonal_answers, job_not_written, job_written}
use Rattle.btf_tool.proofs.diagonal_job.diagonal.Goals as goal

pub write_diagonal-written-requires-clause-entries : goal.write_diagonal-written-requires-clause-entries
write_diagonal-written-requires-clause-entries g c =
    heaviest_entries c.in_ok-weights.weights c.in_ok-pattern.pattern c.in_ok-answer.answer c.in_ok-weights.ensures.weights.matrix_is c.in_ok-answer.ensures

pub returns-in_err-hand_on-clause-says : goal.returns-in_err-hand_on-clause-says
returns-in_err-hand_on-clause-says g c =
    let job = Diagonal c.args.drop_zeros in
    let input = seen g.S.Source.left g.S.Source.faults c.args.input.now c.read_file.new.input in
    let out = seen g.O.Sink.taken g.O.Sink.faults c.args.out.now c.hand_on.new.out in
    let integer : c.in_ok-triples.triples.field ≡ Integer = sym c.field.ensures ∙ c.in-Integer.is in
    as_refusal _ WriteFault (JobSays job input out) c.from_residual-in_err-hand_on.ensures.1
    (job_not_written job (answer_on c.in_ok-answer.answer) input out _ c.in_ok-triples.triples [] c.in_ok-pattern.pattern tt
    c.in_ok-triples.ensures.read c.in_ok-triples.ensures.limits c.in_ok-triples.ensures.counts (λ _. integer) c.in_ok-pattern.ensures.matrix c.in_ok-pattern.ensures.fits
    (diagonal_answers _ _ c.in_ok-weights.weights c.in_ok-answer.answer c.in_ok-weights.ensures.weights c.in_ok-answer.ensures)
    (c.in_err-hand_on.ensures _ _ _ c.write_diagonal-written.ensures))

pub returns-clause-says : goal.returns-clause-says
returns-clause-says g c =
    let input = seen g.S.Source.left g.S.Source.faults c.args.input.now c.read_file.new.input in
    let out = seen g.O.Sink.taken g.O.Sink.faults c.args.out.now c.hand_on.new.out in
    let integer : c.in_ok-triples.triples.field ≡ Integer = sym c.field.ensures ∙ c.in-Integer.is in
    rw c.answer_of.ensures
    (job_written (Diagonal c.args.drop_zeros) (answer_on c.in_ok-answer.answer) input out _ c.in_ok-triples.triples [] c.in_ok-pattern.pattern tt
    c.in_ok-triples.ensures.read c.in_ok-triples.ensures.limits (λ _. integer) c.in_ok-pattern.ensures.matrix c.in_ok-pattern.ensures.fits
    (diagonal_answers _ _ c.in_ok-weights.weights c.in_ok-answer.answer c.in_ok-weights.ensures.weights c.in_ok-answer.ensures)
    (c.in_ok-hand_on.ensures _ _ _ c.write_diagonal-written.ensures))
