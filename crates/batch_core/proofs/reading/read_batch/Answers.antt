use Rattle.std.proofs.Common.{◌≤◌, ap, Err, IfErr, List, ℕ, length}
use Rattle.std.proofs.lemmas.List.{length-map}
use Rattle.std.proofs.lemmas.List.Elements.{All-map}
use Rattle.mm_defs.specs.Calls.{Intake, room}
use Rattle.sp_ids.specs.Limits.{max_batch_file_bytes}
use Rattle.sp_ports.specs.Device.{seen}
use Rattle.batch_core.specs.BatchRefusals.{refusal_for}
use Rattle.batch_core.specs.BatchRuns.{IsUnread}
use Rattle.batch_core.proofs.BatchReadings.{as_refusal, batch_refused}
use Rattle.batch_core.proofs.reading.read_batch.Goals as goal

pub returns-in_err-read_files-clause-unread : goal.returns-in_err-read_files-clause-unread
returns-in_err-read_files-clause-unread g c =
    let e = c.in_err-read_files.ensures in
    let input = seen g.S.Source.left g.S.Source.faults c.args.input.now c.read_files.new.source in
    as_refusal c.from_residual-in_err-read_files.result (refusal_for c.in_err-read_files.field-0.0) (λ r. IfErr r (IsUnread input)) c.from_residual-in_err-read_files.ensures.1
    (batch_refused input c.in_ok-bytes.bytes c.in_err-read_files.field-0.0 (ap room c.in_ok-bytes.ensures) (ap (λ (i : Intake). i.ahead) c.in_ok-bytes.ensures) e.tells.answer (λ x. e.fares.cause.failed (ap Err x)))

pub returns-clause-limits : goal.returns-clause-limits
returns-clause-limits g c = record {
  few = simp length-map c.in_ok-read_files.ensures.gives.few;
  small = All-map (λ (file : List ℕ). length file ≤ max_batch_file_bytes) (λ file. file.items) _ c.in_ok-read_files.ensures.gives.small;
}
