use Rattle.std.proofs.Common.{◌≤◌, ◌∙◌, ℕ, List, length, Some, sym, ap, subst}
use Rattle.std.specs.Global.{Vec}
use Rattle.std.proofs.lemmas.Result.{IfOk-weaker}
use Rattle.sp_ids.specs.Limits.{max_batch_file_bytes}
use Rattle.mm_frames.specs.Batches.{files_of}
use Rattle.run_tests.proofs.Answered.{answered, bytes_at, small_at}
use Rattle.run_tests.proofs.batch_answers.answer_of.Goals as goal

pub answer_bytes-requires-after_bounds : goal.answer_bytes-requires-after_bounds
answer_bytes-requires-after_bounds g c κs within =
    subst (λ (bytes : List ℕ). length bytes ≤ max_batch_file_bytes)
    (sym (c.as_slice.ensures.value ∙ ap (λ (file : Vec ℕ). file.items) c.index-files-file.is))
    (small_at c.args.files.now c.args.file c.index-files-file.result c.requires.files c.requires.file)

pub returns : goal.returns
returns g c =
    IfOk-weaker c.answer_bytes.result _ _ (λ answer is.
    answered (files_of c.args.files.now) c.args.file _ answer
    (bytes_at c.args.files.now c.args.file c.index-files-file.result c.requires.file
    ∙ ap (λ (bytes : List ℕ). Some bytes) (sym (c.as_slice.ensures.value ∙ ap (λ (file : Vec ℕ). file.items) c.index-files-file.is))) is)
    c.answer_bytes.ensures
