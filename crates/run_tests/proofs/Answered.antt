-- A file of a batch, and the answer to it.
use Rattle.std.proofs.Common.{◌≡◌, ◌∙◌, ◌<◌, ◌≤◌, ℕ, List, length, Some, ap, get_or}
use Rattle.std.specs.List.{slice_get}
use Rattle.std.specs.Global.{Vec}
use Rattle.std.proofs.lemmas.List.{length-map}
use Rattle.std.proofs.Math.ListN.{get_or-map}
use Rattle.std.proofs.lemmas.Option.{slice_get-get_or}
use Rattle.btf_tool.specs.FileAnswer.{IsFileAnswer}
use Rattle.btf_tool.specs.declared.file_answer.FileAnswer.{FileAnswer}
use Rattle.sp_ids.specs.Limits.{max_batch_file_bytes}
use Rattle.mm_frames.specs.Batches.{files_of}
use Rattle.batch_core.specs.Shares.{IsAnswerAt, IsWithinLimits}

-- the bytes of the file at this place, which are within the limit
pub bytes_at : (files : List (Vec ℕ)) (i : ℕ) (d : Vec ℕ) → i < length files → slice_get (files_of files) i ≡ Some (get_or files i d).items
bytes_at files i d lt =
    let lt' : i < length (files_of files) = rw (length-map files (λ (file : Vec ℕ). file.items)) lt in
    slice_get-get_or (files_of files) i d.items lt' ∙ ap (λ (x : List ℕ). Some x) (get_or-map (λ (file : Vec ℕ). file.items) files i d)

pub small_at : (files : List (Vec ℕ)) (i : ℕ) (d : Vec ℕ) → IsWithinLimits (files_of files) → i < length files → length (get_or files i d).items ≤ max_batch_file_bytes
small_at files i d h lt =
    let items = λ (file : Vec ℕ). file.items in
    let lt' : i < length (files_of files) = rw (length-map files items) lt in
    let small : length (get_or (files_of files) i d.items) ≤ max_batch_file_bytes = h.small i d.items lt' in
    rw (get_or-map items files i d) at small

-- what is an answer to those bytes is one to the file
pub answered : (files : List (List ℕ)) (i : ℕ) (bytes : List ℕ) (answer : FileAnswer) → slice_get files i ≡ Some bytes → IsFileAnswer bytes answer → IsAnswerAt files i answer
answered files i bytes answer at is = record { file = bytes; at = at; is_answer = is }
