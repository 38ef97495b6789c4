use Rattle.std.proofs.Common.{subst, ◌∙◌, List, ℕ}
use Rattle.btf_text.specs.Batches.{behind_file_line}
use Rattle.sp_ids.specs.Exit.{exit_code}
use Rattle.sp_ids.specs.declared.outcomes.Status.TheVariants.{Limit, Malformed}
use Rattle.sp_ports.specs.Device.{Writes, seen}
use Rattle.batch_core.proofs.texts.write_answer.Goals as goal

pub returns-in-Report : goal.returns-in-Report
returns-in-Report g c = rw c.in-Report.is c.write_file_report.ensures.written

pub returns-then-limit : goal.returns-then-limit
returns-then-limit g c =
    let out = seen g.K.Sink.taken g.K.Sink.faults c.args.out.now c.write_file_fault.new.out in
    let result = c.write_file_fault.result in
    rw (c.in-Bad.is, c.if-limit.true)
    (subst (λ (why : List ℕ). Writes out (behind_file_line c.args.number (exit_code Limit) why) result) (c.as_bytes.ensures ∙ c.limit_line-why.ensures)
    (subst (λ (status : ℕ). Writes out (behind_file_line c.args.number status c.as_bytes.result.now) result) c.code_of.ensures c.write_file_fault.ensures))

pub returns-else-limit : goal.returns-else-limit
returns-else-limit g c =
    let out = seen g.K.Sink.taken g.K.Sink.faults c.args.out.now c.write_file_fault-else-limit.new.out in
    let result = c.write_file_fault-else-limit.result in
    rw (c.in-Bad.is, c.if-limit.false)
    (subst (λ (why : List ℕ). Writes out (behind_file_line c.args.number (exit_code Malformed) why) result) (c.as_bytes-else-limit.ensures ∙ c.malformed_line-why.ensures)
    (subst (λ (status : ℕ). Writes out (behind_file_line c.args.number status c.as_bytes-else-limit.result.now) result) c.code_of-else-limit.ensures c.write_file_fault-else-limit.ensures))
