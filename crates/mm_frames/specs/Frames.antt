-- What a reader of files stands for between two bytes, and what the steps of its reading answer.
use Rattle.std.specs.Prelude.{◌≡◌, ◌≢◌, ◌≤◌, ◌<◌, ◌+◌, ◌⊎◌, ℕ, Bool, true, false, List, [], ◌∷◌, ◌++◌, length, Option, Some, None, Result, Ok, Err}
use Rattle.std.specs.Global.{Vec}
use Rattle.sp_ids.specs.Limits.{max_batch_files}
use Rattle.sp_ports.specs.Bytes.{IsAtEnd}
use Rattle.sp_ports.specs.Device.{Device, HasReadFault, IsSteady}
use Rattle.mm_defs.specs.declared.answers.ReadError.{ReadError}
use Rattle.mm_defs.specs.declared.answers.ReadError.TheVariants as read_errors
use Rattle.mm_defs.specs.declared.kinds.Kind.{Kind}
use Rattle.mm_defs.specs.declared.kinds.Kind.TheVariants.{ShortFile}
use Rattle.mm_defs.specs.Words.{Word, has_bytes, words}
use Rattle.mm_defs.specs.Faults.{Rule, first_kind, is_limit}
use Rattle.mm_reader.specs.Fronts.{Front}
use Rattle.mm_lines.specs.KeptLines.{KeptLine}
use Rattle.mm_lines.specs.Lines.{IsLine}
use Rattle.mm_frames.specs.declared.batch.BatchError.{BatchError}
use Rattle.mm_frames.specs.declared.batch.BatchError.TheVariants as errors
use Rattle.mm_frames.specs.declared.header.FrameHeader.{FrameHeader}
use Rattle.mm_frames.specs.Batches.{BatchFault, AreFrames, bad_frame_from, file_bytes, files_of, first_bad_frame, has_lf, header_rules}
use Rattle.mm_frames.specs.Stages.{HasUsed}

-- ---- one header

-- no kind applies and the header tells so many bytes, or the first kind that applies
abbrev pub JudgedHeader : List Rule → ℕ → Result ℕ Kind → Type 0
JudgedHeader rules says (Ok n) = (first_kind rules ≡ None) × (n ≡ says)
JudgedHeader rules says (Err kind) = first_kind rules ≡ Some kind

-- why a header is bad
abbrev pub HeaderIsBad : ℕ → List Word → BatchError → Type 0
HeaderIsBad before ws (errors.Malformed file kind) = (first_kind (header_rules before ws)
    ≡ Some kind) × (file ≡ before + 1) × (is_limit kind ≡ false)
HeaderIsBad before ws (errors.Limit file kind) = (first_kind (header_rules before ws) ≡ Some kind)
    × (file ≡ before + 1) × (is_limit kind ≡ true)
HeaderIsBad before ws errors.TooLong = ⊥
HeaderIsBad before ws errors.ReadFault = ⊥
HeaderIsBad before ws errors.OutOfMemory = ⊥

-- the header is good and tells so many bytes, or it is bad
abbrev pub HeaderIs : ℕ → Bool → List Word → Result FrameHeader BatchError → Type 0
HeaderIs before last ws (Ok header) = (first_kind (header_rules before ws) ≡ None)
    × (header.bytes ≡ file_bytes ws) × (header.last ≡ last)
HeaderIs before last ws (Err error) = HeaderIsBad before ws error

-- this line is a good header of a file behind so many files, and tells so many bytes
pub record IsGoodHeader (before : ℕ) (line : List ℕ) (bytes : ℕ) : Type 0 where
  pub one_line : has_lf line ≡ false
  pub good : first_kind (header_rules before (words line)) ≡ None
  pub bytes_are : bytes ≡ file_bytes (words line)

-- ---- how a step of the reading is answered

-- an error of reading stays what it is
abbrev pub IsSameStop : ReadError → BatchError → Type 0
IsSameStop (read_errors.Malformed line kind) error = Unit {0}
IsSameStop (read_errors.Limit line kind) error = Unit {0}
IsSameStop read_errors.TooLong error = error ≡ errors.TooLong
IsSameStop read_errors.ReadFault error = error ≡ errors.ReadFault
IsSameStop read_errors.OutOfMemory error = Unit {0}

-- some bytes were used of which this holds
pub record UsesSuch (first now : Front) (source : Device) (P : List ℕ → Type 0) : Type 0 where
  pub used : List ℕ
  pub so_far : HasUsed first now source.before source.after used
  pub such : P used

-- a read has given no bytes, and none has failed
pub record IsDone (now : Front) (source : Device) : Type 0 where
  pub none : now.ahead ≡ []
  pub over : IsAtEnd source.after
  pub steady : IsSteady source

-- this is the first bad frame, whatever follows, or of what was used, with which the input ended
abbrev pub IsBadFrame : (Bool → Option BatchFault) → Front → Device → BatchFault → Type 0
IsBadFrame bad now source fault = (bad false ≡ Some fault)
    ⊎ ((bad true ≡ Some fault) × IsDone now source)

-- Why the bytes that were used do not do; bad tells their first bad frame, where the input ended and where not.
abbrev pub RefusesUsed : (Bool → Option BatchFault) → Front → Device → BatchError → Type 0
RefusesUsed bad now source (errors.Malformed file kind) =
    IsBadFrame bad now source (record { file = file; kind = kind }) × (is_limit kind ≡ false)
RefusesUsed bad now source (errors.Limit file kind) =
    IsBadFrame bad now source (record { file = file; kind = kind }) × (is_limit kind ≡ true)
RefusesUsed bad now source errors.TooLong = (bad false ≡ None)
    × (length now.ahead ≡ 1) × (now.room ≡ 0)
RefusesUsed bad now source errors.ReadFault = (bad false ≡ None)
    × (now.ahead ≡ []) × HasReadFault source
RefusesUsed bad now source errors.OutOfMemory = Unit {0}

-- the line came with its LF, or the input ended with it
abbrev pub HasEnded : Bool → List ℕ → List ℕ → Front → Device → Type 0
HasEnded true line used now source = (used ≡ line) × (line ≢ []) × IsDone now source
HasEnded false line used now source = used ≡ line ++ 10 ∷ []

-- a good header came
pub record TakesHeader (before : ℕ) (header : FrameHeader) (used : List ℕ) (now : Front)
    (source : Device) : Type 0 where
  pub line : List ℕ
  pub good : IsGoodHeader before line header.bytes
  pub has_ended : HasEnded header.last line used now source

-- what is answered to the header of a file behind so many files
abbrev pub AnswersHeader : ℕ → Front → Device → Result (Option FrameHeader) BatchError → List ℕ → Type 0
AnswersHeader before now source (Ok None) used = (used ≡ []) × IsDone now source
AnswersHeader before now source (Ok (Some header)) used =
    TakesHeader before header used now source
AnswersHeader before now source (Err error) used =
    RefusesUsed (λ ended. bad_frame_from ended before used) now source error

-- what is answered where the input ended with a good header
abbrev pub AnswersLast : List (List ℕ) → ℕ → Result (Vec (Vec ℕ)) BatchError → Type 0
AnswersLast files bytes (Ok all) = (bytes ≡ 0) × (files_of all.items ≡ files ++ [] ∷ [])
AnswersLast files bytes (Err (errors.Malformed file kind)) = (0 < bytes)
    × (file ≡ length files + 1) × (kind ≡ ShortFile)
AnswersLast files bytes (Err (errors.Limit file kind)) = ⊥
AnswersLast files bytes (Err errors.TooLong) = ⊥
AnswersLast files bytes (Err errors.ReadFault) = ⊥
AnswersLast files bytes (Err errors.OutOfMemory) = Unit {0}

-- what is answered to the bytes of a file behind so many files and this header
abbrev pub AnswersFile : ℕ → List ℕ → ℕ → Front → Device → Result (Vec ℕ) BatchError → List ℕ
    → Type 0
AnswersFile before line bytes now source (Ok file) used = (used ≡ file.items)
    × (length used ≡ bytes)
AnswersFile before line bytes now source (Err error) used =
    RefusesUsed (λ ended. bad_frame_from ended before (line ++ 10 ∷ used)) now source error

-- ---- where the reader stands

-- a line has begun, and is kept by its words
pub record BeginsLine (first now : Front) (old new : Option (List ℕ)) (line : KeptLine)
    (begun : Bool) : Type 0 where
  pub used : List ℕ
  pub so_far : HasUsed first now old new used
  pub one_line : has_lf used ≡ false
  pub line_is : IsLine line used
  pub begun_is : begun ≡ has_bytes used

-- The bytes are whole frames of these files: what follows them is judged as what stands behind so many files, and its
-- files are those behind these.
pub record AreWhole (bytes : List ℕ) (files : List (List ℕ)) : Type 0 where
  pub judged : (ended : Bool) (more : List ℕ)
      → first_bad_frame ended (bytes ++ more) ≡ bad_frame_from ended (length files) more
  pub frames : (more : List ℕ) (others : List (List ℕ)) → AreFrames more others
      → AreFrames (bytes ++ more) (files ++ others)
  pub few : length files ≤ max_batch_files

-- whole frames were used
pub record HasFiles (first now : Front) (old new : Option (List ℕ))
    (files : List (List ℕ)) : Type 0 where
  pub used : List ℕ
  pub so_far : HasUsed first now old new used
  pub whole : AreWhole used files
