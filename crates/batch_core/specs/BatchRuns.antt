-- What came of a run over a batch, what each status says, and which one has to come.
use Rattle.std.specs.Prelude.{◌≡◌, ◌≤◌, ◌<◌, ◌⊎◌, ℕ, Bool, false, true, List, [], length, take, if◌then◌else◌, Some, None, Result, Ok, Err}
use Rattle.sp_ids.specs.Limits.{max_input_bytes}
use Rattle.sp_ids.specs.declared.outcomes.Status.{Status}
use Rattle.sp_ids.specs.declared.outcomes.Status.TheVariants as statuses
use Rattle.sp_ports.specs.Device.{CountHasNotFallen, Device, HasReadFault, HasWriteFault, IsSteady, IsUntouched, Took, TookPrefix, WroteAsFar}
use Rattle.mm_defs.specs.Calls.{Call, got, offered}
use Rattle.mm_defs.specs.Faults.{is_limit}
use Rattle.mm_frames.specs.Batches.{BatchFault, IsBatch, first_bad_file, first_bad_frame}
use Rattle.btf_words.specs.BatchWords.{AreTaken}
use Rattle.btf_tool.specs.declared.answers.Answer.{Answer}
use Rattle.btf_tool.specs.declared.answers.Answer.TheVariants.{Negative, Positive}
use Rattle.btf_tool.specs.Jobs.{OfReading}
use Rattle.btf_tool.specs.Runs.{IsOrNoMemory, Run, SaysOf, StaysKnown}
use Rattle.batch_core.specs.BatchRefusals.{line_of, status_of}
use Rattle.batch_core.specs.BatchText.{AreGood, IsBatchText}
use Rattle.batch_core.specs.Shares.{IsWithinLimits}
use Rattle.batch_core.specs.declared.refusals.BatchRefusal.{BatchRefusal}
use Rattle.batch_core.specs.declared.refusals.BatchRefusal.TheVariants.{Limit, Malformed, OutOfMemory, ReadFault, TooLong, Usage, WriteFault}

-- ---- the answer

-- the input was a batch of these files within the limit, and was read to its end
pub record WasRead (call : Call) (files : List (List ℕ)) : Type 0 where
  pub batch : IsBatch (offered call) files
  pub within : length (offered call) ≤ call.room
  pub to_the_end : call.after ≡ []

-- whether each file is good
abbrev pub IsAnswerFor : List (List ℕ) → Answer → Type 0
IsAnswerFor files Positive = AreGood files
IsAnswerFor files Negative = ¬ AreGood files

-- What is answered over the files of a batch within the limits. Where the input tells its bytes they were that batch.
pub record IsAnswer (input : Device) (answer : Answer) (text : List ℕ) : Type 0 where
  pub files : List (List ℕ)
  pub was_read : OfReading input (λ call. WasRead call files)
  pub limits : IsWithinLimits files
  pub answer_is : IsAnswerFor files answer
  pub is_text : IsBatchText files text

-- what was done with the answer, whether the input tells its bytes or not
abbrev pub WithAnswer : Answer → Device → (List ℕ → Type 0) → Type 0
WithAnswer answer input P = (text : List ℕ) × IsAnswer input answer text × P text

-- The words were taken, the whole answer was written, and nothing else.
pub record IsAnswered (r : Run) (answer : Answer) : Type 0 where
  pub taken : AreTaken r.words
  pub written : WithAnswer answer r.input (Took r.out)
  pub steady_input : IsSteady r.input
  pub steady_out : IsSteady r.out
  pub nothing_written : IsUntouched r.err

-- ---- refusals

-- the first bad frame of the input is this one, and its kind passes a limit or does not
abbrev pub IsBadFile : Bool → Device → BatchFault → Type 0
IsBadFile limit input fault = OfReading input
    (λ call. (first_bad_file call ≡ Some fault) × (is_limit fault.kind ≡ limit))

-- no frame is bad of what the input gave, and it gave no more bytes than it may have
abbrev pub IsGoodSoFar : Device → Type 0
IsGoodSoFar input = OfReading input
    (λ call. (first_bad_file call ≡ None) × (length (got call) ≤ call.room))

-- no frame is bad of what the input gave, and it gave more bytes than it may have
abbrev pub IsTooLong : Device → Type 0
IsTooLong input = OfReading input
    (λ call. (first_bad_file call ≡ None) × (call.room < length (got call)))

-- Why the files could not be read.
abbrev pub IsUnread : Device → BatchRefusal → Type 0
-- the first bad frame is not of a batch's form
IsUnread input (Malformed file kind) =
    IsBadFile false input (record { file = file; kind = kind })
-- the first bad frame passes a limit
IsUnread input (Limit file kind) =
    IsBadFile true input (record { file = file; kind = kind })
-- no frame is bad, and the input gave more bytes than it may have
IsUnread input TooLong = IsTooLong input
-- a read failed, no frame that had ended is bad, and no more bytes came than the input may have
IsUnread input ReadFault = HasReadFault input × IsGoodSoFar input
-- nothing is said of why
IsUnread input OutOfMemory = StaysKnown input
IsUnread input WriteFault = ⊥
IsUnread input Usage = ⊥

-- What a refusal says of the input and of the output, where the words are taken.
abbrev pub IsCause : Device → Device → BatchRefusal → Type 0
-- a write failed, and a prefix of the answer was taken
IsCause input out WriteFault = HasWriteFault out × IsSteady input
    × ((answer : Answer) × WithAnswer answer input (TookPrefix out))
-- the files could not be read, and nothing was written
IsCause input out refusal = IsUnread input refusal × IsUntouched out

-- What the outcome over words that are taken says of the input and of the output.
abbrev pub BatchSays : Device → Device → Result Answer BatchRefusal → Type 0
BatchSays input out (Ok answer) = IsSteady input × IsSteady out
    × WithAnswer answer input (Took out)
BatchSays input out (Err refusal) = CountHasNotFallen input × CountHasNotFallen out
    × IsCause input out refusal

-- What a refusal says of a run.
abbrev pub HasCause : Run → BatchRefusal → Type 0
-- the words are not taken, and nothing was read or written
HasCause r Usage = (¬ AreTaken r.words) × IsUntouched r.input × IsUntouched r.out
HasCause r OutOfMemory = CountHasNotFallen r.input × StaysKnown r.input × IsUntouched r.out
HasCause r refusal = AreTaken r.words × CountHasNotFallen r.input × IsCause r.input r.out refusal

-- The run was refused: the status is the refusal's, its line was written, and it has its cause.
pub record IsRefused (r : Run) (status : Status) : Type 0 where
  pub refusal : BatchRefusal
  pub status_is : status ≡ status_of refusal
  pub line : WroteAsFar r.err (line_of refusal)
  pub cause : HasCause r refusal

-- what each status says
abbrev pub Says : Run → Status → Type 0
Says r = SaysOf (IsAnswered r) (IsRefused r)

-- ---- which status has to come

-- the status of a bad frame
abbrev pub status_of_fault : BatchFault → Status
status_of_fault fault = if is_limit fault.kind then statuses.Limit else statuses.Malformed

-- the answer over these files comes, unless memory ran out
pub record EndsWell (files : List (List ℕ)) (status : Status) : Type 0 where
  pub all_good : AreGood files → IsOrNoMemory status statuses.Ok
  pub some_bad : ¬ AreGood files → IsOrNoMemory status statuses.Negative

pub record Completes (r : Run) (status : Status) : Type 0 where
  -- words that are not taken are refused
  pub usage : ¬ AreTaken r.words → IsOrNoMemory status statuses.Usage
  -- a bad frame that the input gave is answered, whatever follows it
  pub bad_file : AreTaken r.words
      → OfReading r.input (λ call. (fault : BatchFault) → first_bad_file call ≡ Some fault
      → IsOrNoMemory status (status_of_fault fault))
  -- a batch within the limits is answered, where no device failed
  pub good : AreTaken r.words → ¬ HasReadFault r.input → ¬ HasWriteFault r.out
      → OfReading r.input (λ call. (files : List (List ℕ)) → IsBatch call.before files
      → length call.before ≤ max_input_bytes → EndsWell files status)
  -- what is no batch within the limits is refused by its kind, where no read failed
  pub not_good : AreTaken r.words → ¬ HasReadFault r.input
      → OfReading r.input (λ call. ((files : List (List ℕ)) → IsBatch call.before files
      → ¬ (length call.before ≤ max_input_bytes))
      → ((status ≡ statuses.Malformed) ⊎ (status ≡ statuses.Limit))
      ⊎ (status ≡ statuses.OutOfMemory))
  -- more bytes than the input may have are refused for their number, whatever failed, where no frame that had ended is bad
  pub too_many : AreTaken r.words → OfReading r.input (λ call. first_bad_file call ≡ None
      → call.room < length (got call) → IsOrNoMemory status statuses.Limit)
  -- so is an input that is too long, where no read failed and no frame within the limit is bad
  pub too_long : AreTaken r.words → ¬ HasReadFault r.input
      → OfReading r.input (λ call. max_input_bytes < length call.before
      → first_bad_frame false (take max_input_bytes call.before) ≡ None
      → IsOrNoMemory status statuses.Limit)
