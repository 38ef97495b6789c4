use Rattle.std.proofs.Common.{length, refl}
use Rattle.btf_text.specs.Batches.{files_end}
use Rattle.batch_core.specs.BatchText.{texts_of_slots}
use Rattle.batch_core.proofs.Writing.{as_failure, handed_on, prefix_more}
use Rattle.batch_core.proofs.texts.write_answers.Goals as goal

pub returns-in_err-write_slots : goal.returns-in_err-write_slots
returns-in_err-write_slots g c =
    as_failure _ _ _ c.from_residual.ensures.0
    (prefix_more _ (texts_of_slots 1 c.args.slots.now) (files_end (length c.args.slots.now)) c.in_err-write_slots.ensures)

pub returns-in_err-write_files_end : goal.returns-in_err-write_files_end
returns-in_err-write_files_end g c =
    as_failure _ _ _ c.from_residual-in_err-write_files_end.ensures.0
    (c.taken_in_turn.ensures.prefix _ _ _ _ (refl, refl) c.in_ok-write_slots.ensures c.in_err-write_files_end.ensures)

pub returns : goal.returns
returns g c =
    handed_on _ _ _ _ _ _ _ c.flush.result
    (c.taken_in_turn.ensures.both _ _ _ _ (refl, refl) c.in_ok-write_slots.ensures c.in_ok-write_files_end.ensures) c.flush.ensures.kept c.flush.ensures.cause
