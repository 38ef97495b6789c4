use Rattle.std.proofs.Common.{[], refl, subst, sym, Option}
use Rattle.sp_ports.specs.Device.{seen}
use Rattle.bip_graph.specs.Answers.{AreOfVersion}
use Rattle.bip_graph.specs.declared.answers.Components.{Components}
use Rattle.btf_text.specs.Reports.{components_in}
use Rattle.btf_words.specs.Choices.{number_of}
use Rattle.btf_words.specs.declared.jobs.Job.TheVariants.{Analyse}
use Rattle.btf_tool.specs.Runs.{JobSays}
use Rattle.btf_tool.specs.declared.answers.Answer.TheVariants.{Positive}
use Rattle.btf_tool.specs.declared.refusals.Refusal.TheVariants.{OutOfMemory, WriteFault}
use Rattle.btf_tool.proofs.Analyses.{analysis_answers}
use Rattle.btf_tool.proofs.Jobs.{as_refusal, job_not_written, job_written, no_memory}
use Rattle.btf_tool.proofs.analyse_job.analyse.Goals as goal

pub returns-in_err-hand_on-clause-says : goal.returns-in_err-hand_on-clause-says
returns-in_err-hand_on-clause-says g c =
    let report = c.args.options.report in
    let of_version = subst (λ (o : Option Components). AreOfVersion c.in_ok-pattern.pattern (number_of report.version) (components_in o)) (sym c.as_ref.ensures.value) c.in_ok-analysis.ensures.of_version in
    let answers = analysis_answers _ _ _ _ report _ c.in_ok-analysis.ensures.decomposes c.in_ok-analysis.ensures.least c.is_matching.ensures.cols_rise of_version c.are_listed.ensures in
    let job = Analyse c.args.options.choice report c.args.options.drop_zeros in
    let input = seen g.S.Source.left g.S.Source.faults c.args.input.now c.read_file.new.input in
    let out = seen g.O.Sink.taken g.O.Sink.faults c.args.out.now c.hand_on.new.out in
    as_refusal _ WriteFault (JobSays job input out) c.from_residual-in_err-hand_on.ensures.1
    (job_not_written job Positive input out _ c.in_ok-triples.triples [] c.in_ok-pattern.pattern tt c.in_ok-triples.ensures.read c.in_ok-triples.ensures.limits c.in_ok-triples.ensures.counts
    c.in_ok-pattern.ensures.fit c.in_ok-pattern.ensures.matrix c.in_ok-pattern.ensures.fits (refl, answers)
    (c.in_err-hand_on.ensures _ _ _ (c.write_report-written.ensures.of_matrix c.in_ok-pattern.pattern c.in_ok-analysis.ensures.decomposes)))

pub returns-clause-says : goal.returns-clause-says
returns-clause-says g c =
    let report = c.args.options.report in
    let of_version = subst (λ (o : Option Components). AreOfVersion c.in_ok-pattern.pattern (number_of report.version) (components_in o)) (sym c.as_ref.ensures.value) c.in_ok-analysis.ensures.of_version in
    let answers = analysis_answers _ _ _ _ report _ c.in_ok-analysis.ensures.decomposes c.in_ok-analysis.ensures.least c.is_matching.ensures.cols_rise of_version c.are_listed.ensures in
    let job = Analyse c.args.options.choice report c.args.options.drop_zeros in
    let input = seen g.S.Source.left g.S.Source.faults c.args.input.now c.read_file.new.input in
    let out = seen g.O.Sink.taken g.O.Sink.faults c.args.out.now c.hand_on.new.out in
    job_written job Positive input out _ c.in_ok-triples.triples [] c.in_ok-pattern.pattern tt c.in_ok-triples.ensures.read c.in_ok-triples.ensures.limits
    c.in_ok-pattern.ensures.fit c.in_ok-pattern.ensures.matrix c.in_ok-pattern.ensures.fits (refl, answers)
    (c.in_ok-hand_on.ensures _ _ _ (c.write_report-written.ensures.of_matrix c.in_ok-pattern.pattern c.in_ok-analysis.ensures.decomposes))

pub returns-in_err-analysis-clause-says : goal.returns-in_err-analysis-clause-says
returns-in_err-analysis-clause-says g c =
    let job = Analyse c.args.options.choice c.args.options.report c.args.options.drop_zeros in
    let input = seen g.S.Source.left g.S.Source.faults c.args.input.now c.read_file.new.input in
    let out = seen g.O.Sink.taken g.O.Sink.faults c.args.out.now c.args.out.now in
    as_refusal _ OutOfMemory (JobSays job input out) c.from_residual-in_err-analysis.ensures.1
    (no_memory job input out c.in_ok-triples.triples [] c.in_ok-triples.ensures.read c.in_ok-triples.ensures.counts (refl, refl))

pub returns-in_err-buf-clause-says : goal.returns-in_err-buf-clause-says
returns-in_err-buf-clause-says g c =
    let job = Analyse c.args.options.choice c.args.options.report c.args.options.drop_zeros in
    let input = seen g.S.Source.left g.S.Source.faults c.args.input.now c.read_file.new.input in
    let out = seen g.O.Sink.taken g.O.Sink.faults c.args.out.now c.args.out.now in
    as_refusal _ OutOfMemory (JobSays job input out) c.from_residual-in_err-buf.ensures.1
    (no_memory job input out c.in_ok-triples.triples [] c.in_ok-triples.ensures.read c.in_ok-triples.ensures.counts (refl, refl))
