use Rattle.std.proofs.Common.{Err, ap, map, refl, string_bytes, ◌∙◌}
use Rattle.sp_ports.specs.Device.{seen}
use Rattle.batch_core.proofs.BatchCompleteness.{fulfils}
use Rattle.batch_core.proofs.BatchOutcomes.{answer_says, refused_says, words_refused, words_taken}
use Rattle.batch_core.proofs.run.run_batch.Goals as goal

pub returns-in-Err-clause-status : goal.returns-in-Err-clause-status
returns-in-Err-clause-status g c = fulfils (record {
  one_list = c.batch_has_one_list_of_files.ensures;
  given_good = c.batch_has_no_bad_frame.ensures.given;
  stays = c.bad_frame_stays.ensures;
  read = c.good_batch_is_read.ensures;
}) _ _ (
    let unused = seen g.S.Source.left g.S.Source.faults c.args.input.now c.args.input.now in
    words_refused _ c.in-Err.error c.from.result _ c.from.ensures (λ usage. c.read_batch_words.ensures.usage (c.in-Err.is ∙ ap Err usage)) (refl, refl)
    (c.unused_input_tells.ensures unused (refl, refl)) (refl, refl) c.refuse.ensures.status c.refuse.ensures.line)

pub returns-in-Ok-perform-clause-status : goal.returns-in-Ok-perform-clause-status
returns-in-Ok-perform-clause-status g c = fulfils (record {
  one_list = c.batch_has_one_list_of_files.ensures;
  given_good = c.batch_has_no_bad_frame.ensures.given;
  stays = c.bad_frame_stays.ensures;
  read = c.good_batch_is_read.ensures;
}) _ _ (
    answer_says _ _ _ _ c.in-Ok-perform.is (words_taken (map string_bytes c.args.words.now) _ _ c.in-Ok.is c.read_batch_words.ensures.taken) c.perform.ensures.says c.status.ensures (refl, refl))

pub returns-in-Err-perform-clause-status : goal.returns-in-Err-perform-clause-status
returns-in-Err-perform-clause-status g c = fulfils (record {
  one_list = c.batch_has_one_list_of_files.ensures;
  given_good = c.batch_has_no_bad_frame.ensures.given;
  stays = c.bad_frame_stays.ensures;
  read = c.good_batch_is_read.ensures;
}) _ _ (
    refused_says _ _ _ _ c.in-Err-perform.is (words_taken (map string_bytes c.args.words.now) _ _ c.in-Ok.is c.read_batch_words.ensures.taken) c.perform.ensures.says
    c.refuse-in-Err-perform.ensures.status c.refuse-in-Err-perform.ensures.line)
