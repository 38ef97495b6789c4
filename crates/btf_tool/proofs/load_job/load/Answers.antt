use Rattle.sp_ports.specs.Device.{seen}
use Rattle.btf_words.specs.declared.jobs.Job.TheVariants.{Load}
use Rattle.btf_tool.specs.Runs.{JobSays}
use Rattle.btf_tool.specs.declared.refusals.Refusal.TheVariants.{WriteFault}
use Rattle.btf_tool.proofs.Analyses.{summary_answers}
use Rattle.btf_tool.proofs.Jobs.{as_refusal}
use Rattle.btf_tool.proofs.Loads.{load_not_written, load_written}
use Rattle.btf_tool.proofs.load_job.load.Goals as goal

pub returns-in_err-hand_on : goal.returns-in_err-hand_on
returns-in_err-hand_on g c input same =
    let out = seen g.O.Sink.taken g.O.Sink.faults c.args.out.now c.hand_on.new.out in
    let (a, matrix, decomposes) = c.in_ok-decomposition.ensures in
    as_refusal _ WriteFault (JobSays (Load c.args.size c.args.seed c.args.choice) input out) c.from_residual-in_err-hand_on.ensures.1
    (load_not_written c.args.size c.args.seed c.args.choice input out _ a same matrix (summary_answers _ _ decomposes)
    (c.in_err-hand_on.ensures _ _ _ c.write_load-written.ensures))

pub returns : goal.returns
returns g c input same =
    let out = seen g.O.Sink.taken g.O.Sink.faults c.args.out.now c.hand_on.new.out in
    let (a, matrix, decomposes) = c.in_ok-decomposition.ensures in
    load_written c.args.size c.args.seed c.args.choice input out _ a same matrix (summary_answers _ _ decomposes)
    (c.in_ok-hand_on.ensures _ _ _ c.write_load-written.ensures)
