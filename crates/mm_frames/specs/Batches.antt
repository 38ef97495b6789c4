-- Batches: files that stand behind one another, each behind a line that tells how many bytes it has.
use Rattle.std.specs.Prelude.{◌≡◌, ◌≤◌, ◌<◌, ◌+◌, ◌==◌, ◌&&◌, ◌||◌, ◌⊎◌, not, nat_le, nat_lt, ℕ, zero, suc, Bool, true, false, if◌then◌else◌, List, [], ◌∷◌, ◌++◌, length, drop, map, codes, Option, Some, None, Result, Ok, Err, OnOk}
use Rattle.std.specs.Global.{Vec}
use Rattle.std.specs.Result.{IsErrOf}
use Rattle.std.specs.Str.{bytes_eq}
use Rattle.sp_ids.specs.Limits.{max_batch_files, max_batch_file_bytes}
use Rattle.sp_ports.specs.Device.{CountHasNotFallen, Device, HasReadFault, IsSteady}
use Rattle.mm_defs.specs.declared.kinds.Kind.{Kind}
use Rattle.mm_defs.specs.declared.kinds.Kind.TheVariants.{BatchHeader, Files, FileBytes, ShortFile}
use Rattle.mm_defs.specs.Words.{Word, is_lf, word, words}
use Rattle.mm_defs.specs.Numbers.{is_number, number}
use Rattle.mm_defs.specs.Faults.{Rule, first_kind, is_limit}
use Rattle.mm_defs.specs.File.{behind}
use Rattle.mm_defs.specs.Calls.{Call, ended, given, got, offered}
use Rattle.mm_frames.specs.declared.batch.BatchError.{BatchError}
use Rattle.mm_frames.specs.declared.batch.BatchError.TheVariants as errors

-- ---- what a batch is

-- whether an LF stands among the bytes
abbrev pub has_lf : List ℕ → Bool
has_lf [] = false
has_lf (b ∷ bs) = is_lf b || has_lf bs

-- a line of the words `file` and a number, and the number is this
pub record IsHeader (line : List ℕ) (bytes : ℕ) : Type 0 where
  pub one_line : has_lf line ≡ false
  pub word : Word
  pub words_are : words line ≡ codes "file" ∷ word ∷ []
  pub numeric : is_number word ≡ true
  pub bytes_are : number word ≡ bytes

-- The bytes begin with this line, an LF and this file, and this is the rest; or the line is all, and the file is empty.
abbrev pub BeginsWith : List ℕ → List ℕ → List ℕ → List ℕ → Type 0
BeginsWith bytes line file rest = (bytes ≡ line ++ 10 ∷ (file ++ rest))
    ⊎ ((bytes ≡ line) × (file ≡ []) × (rest ≡ []))

-- the bytes begin with the frame of this file: its header, and then the file, which is within the limit
pub record HasFrame (bytes file rest : List ℕ) : Type 0 where
  pub line : List ℕ
  pub header : IsHeader line (length file)
  pub begins : BeginsWith bytes line file rest
  pub small : length file ≤ max_batch_file_bytes

-- the bytes are the frames of these files and no others
abbrev pub AreFrames : List ℕ → List (List ℕ) → Type 0
AreFrames bytes [] = bytes ≡ []
AreFrames bytes (file ∷ files) = (rest : List ℕ) × HasFrame bytes file rest × AreFrames rest files

-- the bytes are a batch of these files
pub record IsBatch (bytes : List ℕ) (files : List (List ℕ)) : Type 0 where
  pub frames : AreFrames bytes files
  pub few : length files ≤ max_batch_files

-- ---- the kinds of faults, in the order in which they are tried

abbrev pub is_header : List Word → Bool
is_header ws = (length ws == 2) && bytes_eq (word ws 0) (codes "file") && is_number (word ws 1)

-- how many bytes a header tells
abbrev pub file_bytes : List Word → ℕ
file_bytes ws = number (word ws 1)

-- of the header of a file behind so many files
abbrev pub header_rules : ℕ → List Word → List Rule
header_rules before ws =
    (BatchHeader, not (is_header ws))
    ∷ (Files, nat_le max_batch_files before)
    ∷ (FileBytes, nat_lt max_batch_file_bytes (file_bytes ws))
    ∷ []

-- the first line of the bytes: what stands before the first LF, or all
abbrev pub first_line : List ℕ → List ℕ
first_line [] = []
first_line (b ∷ bs) = if is_lf b then [] else b ∷ first_line bs

abbrev pub header_words : List ℕ → List Word
header_words bytes = words (first_line bytes)

-- what follows the first line
abbrev pub behind_header : List ℕ → List ℕ
behind_header bytes = behind 1 bytes

-- what follows the first frame
abbrev pub behind_frame : List ℕ → List ℕ
behind_frame bytes = drop (file_bytes (header_words bytes)) (behind_header bytes)

-- Of the frame at the start of the bytes, behind so many files. The file is too short where the input ended within it.
abbrev pub frame_rules : Bool → ℕ → List ℕ → List Rule
frame_rules ended before bytes = header_rules before (header_words bytes) ++ (
  ShortFile,
  ended && nat_lt (length (behind_header bytes)) (file_bytes (header_words bytes)),
) ∷ []

-- the first kind that applies to that frame; a header is judged when its line has ended
abbrev pub frame_kind : Bool → ℕ → List ℕ → Option Kind
frame_kind ended before bytes =
    if ended || has_lf bytes
    then first_kind (frame_rules ended before bytes)
    else None

-- a bad frame, by the number of its file
pub record BatchFault : Type 0 where
  pub file : ℕ
  pub kind : Kind

-- the fault of this frame, or else that of a later one
abbrev pub fault_or : ℕ → Option Kind → Option BatchFault → Option BatchFault
fault_or file (Some kind) later = Some (record { file = file; kind = kind })
fault_or file None later = later

-- the first bad frame of bytes that stand behind so many files, among the first frames, so many
abbrev pub bad_frame_among : ℕ → Bool → ℕ → List ℕ → Option BatchFault
bad_frame_among frames ended before [] = None
bad_frame_among zero ended before (b ∷ bs) = None
bad_frame_among (suc frames) ended before (b ∷ bs) = fault_or (before + 1)
    (frame_kind ended before (b ∷ bs))
    (bad_frame_among frames ended (before + 1) (behind_frame (b ∷ bs)))

-- the same among all frames, each of which has a byte at least
unfoldable pub bad_frame_from : Bool → ℕ → List ℕ → Option BatchFault
bad_frame_from ended before bytes = bad_frame_among (length bytes) ended before bytes

-- The first bad frame of the bytes; the input ended with them or it did not.
abbrev pub first_bad_frame : Bool → List ℕ → Option BatchFault
first_bad_frame ended bytes = bad_frame_from ended 0 bytes

-- ---- what the answers of a reader say of the bytes that it was given

-- the first bad frame among the bytes that the call was given
abbrev pub first_bad_file : Call → Option BatchFault
first_bad_file call = first_bad_frame (ended call) (given call)

-- all that the call could come to is a batch of these files, within the limit, and nothing is left
pub record ReadsBatch (call : Call) (files : List (List ℕ)) (left : List ℕ) : Type 0 where
  pub batch : IsBatch (offered call) files
  pub none_bad : first_bad_frame true (offered call) ≡ None
  pub nothing_left : left ≡ []
  pub within : length (offered call) ≤ call.room

-- Why no files are given. A read is only made while all that came is within the limit.
abbrev pub RefusesBatch : Call → BatchError → Type 0
RefusesBatch call (errors.Malformed file kind) =
    (first_bad_file call ≡ Some (record { file = file; kind = kind })) × (is_limit kind ≡ false)
RefusesBatch call (errors.Limit file kind) =
    (first_bad_file call ≡ Some (record { file = file; kind = kind })) × (is_limit kind ≡ true)
RefusesBatch call errors.TooLong = (first_bad_file call ≡ None) × (call.room < length (got call))
RefusesBatch call errors.ReadFault = (first_bad_file call ≡ None)
    × (call.failures_before < call.failures_after) × (length (got call) ≤ call.room)
RefusesBatch call errors.OutOfMemory = Unit {0}

-- the answer to a bad frame, where memory does not run out
abbrev pub TellsFrame : BatchFault → BatchError → Type 0
TellsFrame fault (errors.Malformed file kind) = fault ≡ record { file = file; kind = kind }
TellsFrame fault (errors.Limit file kind) = fault ≡ record { file = file; kind = kind }
TellsFrame fault errors.TooLong = ⊥
TellsFrame fault errors.ReadFault = ⊥
TellsFrame fault errors.OutOfMemory = Unit {0}

-- the same of what a reader of files answers
abbrev pub IsFrameAnswerTo : {T : Type 0} → BatchFault → Result T BatchError → Type 0
IsFrameAnswerTo fault (Ok files) = ⊥
IsFrameAnswerTo fault (Err error) = TellsFrame fault error

-- the kinds of bad frames
abbrev pub is_frame_kind : Kind → Bool
is_frame_kind BatchHeader = true
is_frame_kind Files = true
is_frame_kind FileBytes = true
is_frame_kind ShortFile = true
is_frame_kind kind = false

-- A kind of a bad frame is told: what is answered as Malformed passes no limit, and what is answered as Limit does.
abbrev pub HasFrameKind : BatchError → Type 0
HasFrameKind (errors.Malformed file kind) = (is_frame_kind kind ≡ true) × (is_limit kind ≡ false)
HasFrameKind (errors.Limit file kind) = (is_frame_kind kind ≡ true) × (is_limit kind ≡ true)
HasFrameKind errors.TooLong = Unit {0}
HasFrameKind errors.ReadFault = Unit {0}
HasFrameKind errors.OutOfMemory = Unit {0}

-- the bytes of each file
abbrev pub files_of : List (Vec ℕ) → List (List ℕ)
files_of files = map (λ file. file.items) files

-- the input is not good after an error of reading alone
abbrev pub StaysGood : {T : Type 0} → Bool → Result T BatchError → Type 0
StaysGood good (Ok x) = good ≡ true
StaysGood good (Err (errors.Malformed file kind)) = good ≡ true
StaysGood good (Err (errors.Limit file kind)) = good ≡ true
StaysGood good (Err errors.TooLong) = good ≡ false
StaysGood good (Err errors.ReadFault) = good ≡ false
StaysGood good (Err errors.OutOfMemory) = good ≡ true

-- At Ok the source's count of failures is as before, and ReadFault is answered only where it rose. It never falls.
pub record FailsByFailedRead {T : Type 0} (source : Device)
    (result : Result T BatchError) : Type 0 where
  pub counts : CountHasNotFallen source
  pub steady : OnOk result (IsSteady source)
  pub failed : IsErrOf result errors.ReadFault → HasReadFault source
