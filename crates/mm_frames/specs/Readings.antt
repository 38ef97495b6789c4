-- What the reading calls of edit lines and of files say, in named parts.
use Rattle.std.specs.Prelude.{◌≡◌, ◌≤◌, ◌<◌, ◌++◌, ℕ, Bool, true, List, length, Option, Some, IsTrue, Result, IfErr, IfOk, IfNone, IfSome, MatchResult}
use Rattle.std.specs.Global.{Vec}
use Rattle.std.specs.List.{All}
use Rattle.sp_ids.specs.Limits.{max_batch_files, max_batch_file_bytes}
use Rattle.sp_ports.specs.Device.{Device}
use Rattle.mm_defs.specs.declared.answers.ReadError.{ReadError}
use Rattle.mm_defs.specs.Calls.{Intake, HasItsKind, IsAnswerTo}
use Rattle.mm_defs.specs.File.{Fault}
use Rattle.mm_defs.specs.Words.{lines}
use Rattle.mm_reader.specs.Fronts.{Front}
use Rattle.mm_reader.specs.Inputs.{OnCall}
use Rattle.mm_frames.specs.declared.batch.BatchError.{BatchError}
use Rattle.mm_frames.specs.declared.edit.Edit.{Edit}
use Rattle.mm_frames.specs.declared.header.FrameHeader.{FrameHeader}
use Rattle.mm_frames.specs.Batches.{BatchFault, FailsByFailedRead, HasFrameKind, IsFrameAnswerTo, ReadsBatch, RefusesBatch, StaysGood, files_of, first_bad_file}
use Rattle.mm_frames.specs.Edits.{HasEditKind, IsWithinMatrix, ReadsEdits, RefusesEdits, edits_of, first_bad_edit}
use Rattle.mm_frames.specs.Frames.{AnswersFile, AnswersHeader, IsGoodHeader, UsesSuch}

-- ---- edit lines

-- What is said of the bytes: the answer, and that a bad line is answered and the first one.
pub record TellsEdits (rows cols : ℕ) (old : Intake) (source : Device) (ahead : List ℕ)
    (result : Result (Vec Edit) ReadError) : Type 0 where
  pub answer : OnCall old source (λ call.
      MatchResult result (λ v. ReadsEdits old.lines rows cols call v.items (ahead ++ call.after))
      (RefusesEdits old.lines rows cols call))
  pub bad : OnCall old source (λ call. (fault : Fault) →
      first_bad_edit old.lines rows cols call ≡ Some fault → IsAnswerTo fault result)

-- What holds also where the source does not tell its bytes: a kind of edit lines is told, Limit
-- tells what passes a limit, and the edits are what some lines say, of places of the matrix.
pub record GivesEdits (rows cols lfs : ℕ) (result : Result (Vec Edit) ReadError) : Type 0 where
  pub kind : HasItsKind result
  pub family : IfErr result HasEditKind
  pub said : IfOk result
      (λ v. (bytes : List ℕ) × (v.items ≡ edits_of lfs (lines true bytes)))
  pub within : IfOk result (λ v. All (IsWithinMatrix rows cols) v.items)

-- ---- files

-- What is said of the bytes: the answer, and that a bad frame is answered and the first one.
pub record TellsFiles (old : Intake) (source : Device) (ahead : List ℕ)
    (result : Result (Vec (Vec ℕ)) BatchError) : Type 0 where
  pub answer : OnCall old source (λ call.
      MatchResult result (λ v. ReadsBatch call (files_of v.items) (ahead ++ call.after))
      (RefusesBatch call))
  pub bad : OnCall old source (λ call. (fault : BatchFault) →
      first_bad_file call ≡ Some fault → IsFrameAnswerTo fault result)

-- What holds also where the source does not tell its bytes: a kind of frames is told, Limit tells
-- what passes a limit, and the files are within the limits.
pub record GivesFiles (result : Result (Vec (Vec ℕ)) BatchError) : Type 0 where
  pub kind : IfErr result HasFrameKind
  pub few : IfOk result (λ v. length v.items ≤ max_batch_files)
  pub small : IfOk result (λ v. All (λ file. length file.items ≤ max_batch_file_bytes) v.items)

-- A fault comes where the source's count rose, and the input is not good after an error of reading.
pub record Fares {T : Type 0} (source : Device) (is_good : Bool)
    (result : Result T BatchError) : Type 0 where
  pub cause : FailsByFailedRead source result
  pub good : StaysGood is_good result

-- ---- the header of a file, and its bytes

-- what is said of the bytes that were used for a header behind so many files
abbrev pub TellsHeader : ℕ → Front → Front → Device → Result (Option FrameHeader) BatchError → Type 0
TellsHeader before first now source result =
    UsesSuch first now source (AnswersHeader before now source result)

-- What holds also where the source does not tell its bytes; a header that comes last, or none, only
-- where a read has given no bytes.
pub record GivesHeader (before : ℕ) (at_end : Bool)
    (result : Result (Option FrameHeader) BatchError) : Type 0 where
  pub kind : IfErr result HasFrameKind
  pub few : IfOk result (λ header. IfSome header (λ h. before < max_batch_files))
  pub small : IfOk result (λ header. IfSome header (λ h. h.bytes ≤ max_batch_file_bytes))
  pub none : IfOk result (λ header. IfNone header (IsTrue at_end))
  pub last : IfOk result (λ header. IfSome header (λ h. h.last ≡ true → IsTrue at_end))

-- what is said of the bytes that were used for a file behind so many and a header of so many bytes
abbrev pub TellsFile : ℕ → ℕ → Front → Front → Device → Result (Vec ℕ) BatchError → Type 0
TellsFile before bytes first now source result = (line : List ℕ) → IsGoodHeader before line bytes
    → UsesSuch first now source (AnswersFile before line bytes now source result)

-- the same also where the source does not tell its bytes
pub record GivesFile (result : Result (Vec ℕ) BatchError) : Type 0 where
  pub kind : IfErr result HasFrameKind
  pub small : IfOk result (λ file. length file.items ≤ max_batch_file_bytes)
