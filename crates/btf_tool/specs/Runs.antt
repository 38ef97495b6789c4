-- What a run was given, what came of it, and what each status says.
use Rattle.std.specs.Prelude.{◌≡◌, ◌≤◌, ◌<◌, ◌⊎◌, ℕ, Bool, true, false, List, length, take, if◌then◌else◌, Some, None, Result, Ok, Err}
use Rattle.sp_ids.specs.Entries.{Entries}
use Rattle.sp_ids.specs.Limits.{max_input_bytes}
use Rattle.sp_ids.specs.declared.outcomes.Status.{Status}
use Rattle.sp_ids.specs.declared.outcomes.Status.TheVariants as statuses
use Rattle.btf_words.specs.Words.{AreTaken, job_of}
use Rattle.btf_words.specs.declared.jobs.Job.{Job}
use Rattle.btf_words.specs.declared.jobs.Job.TheVariants.{Bottleneck, Check, Diagonal}
use Rattle.bip_defs.specs.Matching.{IsRank}
use Rattle.bip_defs.specs.Matrix.{Matrix, cols}
use Rattle.sp_ids.specs.declared.triples.Field.TheVariants.{Integer}
use Rattle.sp_pattern.specs.Weights.{IsFirstPast, weight_limit, weight_of}
use Rattle.btf_check.specs.Verdicts.{IsVerdict}
use Rattle.btf_check.specs.declared.verdict.Verdict.{Verdict}
use Rattle.mm_defs.specs.Faults.{is_limit}
use Rattle.mm_defs.specs.File.{Fault}
use Rattle.mm_defs.specs.Calls.{got}
use Rattle.sp_ports.specs.Bytes.{WhereKnown}
use Rattle.btf_tool.specs.declared.answers.Answer.{Answer}
use Rattle.btf_tool.specs.declared.answers.Answer.TheVariants.{Negative, Positive}
use Rattle.btf_tool.specs.declared.refusals.Refusal.{Refusal}
use Rattle.btf_tool.specs.declared.refusals.Refusal.TheVariants.{Usage, Malformed, Limit, TooLong, SumLimit, NeedsInteger, ReadFault, WriteFault, OutOfMemory}
use Rattle.sp_ports.specs.Device.{CountHasNotFallen, Device, IsSteady, IsUntouched, HasReadFault, HasWriteFault, Took, TookPrefix, WroteAsFar}
use Rattle.btf_tool.specs.Jobs.{Holds, IsFitFor, IsMatrixOf, MayAnswer, NeedsIntegers, OfReading, ReadsFile, WasRead, Weighs, WithAnswer, drops_of, form_of}
use Rattle.btf_tool.specs.Inputs.{Form, IsGoodInput, first_bad_in, first_fault_in}
use Rattle.btf_tool.specs.VerdictText.{answer_of}
use Rattle.btf_tool.specs.Refusals.{line_of, status_of, status_of_answer}

-- a run: the words after the program's name, and what is seen of the devices
pub record Run : Type 0 where
  pub words : List (List ℕ)
  pub input : Device
  pub out : Device
  pub err : Device

abbrev pub run_of : List (List ℕ) → Device → Device → Device → Run
run_of words input out err = record { words = words; input = input; out = out; err = err }

-- what a status says of the run holds, and the status is one that has to come
pub record Fulfils (Says Completes : Run → Status → Type 0) (r : Run) (status : Status) : Type 0 where
  pub says : Says r status
  pub complete : Completes r status

-- the words are taken, and name this job
pub record Names (words : List (List ℕ)) (job : Job) : Type 0 where
  pub taken : AreTaken words
  pub job_is : job_of words ≡ Some job

-- the words name this job, which reads a matrix file
abbrev pub NamesReader : List (List ℕ) → Job → Type 0
NamesReader words job = Names words job × ReadsFile job

-- the words name a job that makes its matrix
abbrev pub NameMaker : List (List ℕ) → Type 0
NameMaker words = (job : Job) × Names words job × ¬ ReadsFile job

-- ---- the answer

-- The words name a job that may answer so, its whole answer was written, and nothing else.
pub record IsAnswered (r : Run) (answer : Answer) : Type 0 where
  pub job : Job
  pub names : Names r.words job
  pub may : MayAnswer job answer
  pub written : WithAnswer job answer r.input (Took r.out)
  pub steady_input : IsSteady r.input
  pub steady_out : IsSteady r.out
  pub nothing_written : IsUntouched r.err

-- ---- refusals

-- the first bad line of the input is this one
abbrev pub IsBadLine : Form → Device → Fault → Type 0
IsBadLine form input fault = OfReading input (λ call. first_bad_in form call ≡ Some fault)

-- no line is bad of what the input gave, and it gave no more bytes than it may have
abbrev pub IsGoodSoFar : Form → Device → Type 0
IsGoodSoFar form input = OfReading input
    (λ call. (first_bad_in form call ≡ None) × (length (got call) ≤ call.room))

-- no line is bad of what the input gave, and it gave more bytes than it may have
abbrev pub IsTooLong : Form → Device → Type 0
IsTooLong form input = OfReading input
    (λ call. (first_bad_in form call ≡ None) × (call.room < length (got call)))

-- where the bytes of an input were known they still are
abbrev pub StaysKnown : Device → Type 0
StaysKnown input = WhereKnown input.before input.after (λ before after. Unit {0})

-- the job's file was a good one and was read to its end, and this holds of its entries
abbrev pub WithFile : Job → Device → (Entries → Type 0) → Type 0
WithFile job input P = OfReading input
    (λ call. (t : Entries) × (rest : List ℕ) × WasRead (form_of job) call t rest × P t)

-- of the entries of the file's matrix whose sums pass the limit this is the first
abbrev pub IsPast : Bool → Entries → ℕ → ℕ → Type 0
IsPast drop_zeros t row col = (a : Matrix) × IsMatrixOf drop_zeros t a × IsFirstPast t a row col

-- What a refusal of a job says of the input and of the output. Only a job that reads a file is refused for what it read.
abbrev pub IsCause : Job → Device → Device → Refusal → Type 0
-- the first bad line is not of the file's form
IsCause job input out (Malformed line kind) = ReadsFile job × (is_limit kind ≡ false)
    × IsBadLine (form_of job) input (record { line = line; kind = kind }) × IsUntouched out
-- the first bad line passes a limit
IsCause job input out (Limit line kind) = ReadsFile job × (is_limit kind ≡ true)
    × IsBadLine (form_of job) input (record { line = line; kind = kind }) × IsUntouched out
-- no line is bad, and the input gave more bytes than it may have
IsCause job input out TooLong = ReadsFile job × IsTooLong (form_of job) input × IsUntouched out
-- the sum of an entry's values passes the limit, in the integer file of a job that adds them up
IsCause job input out (SumLimit row col) = Weighs job × IsSteady input
    × WithFile job input (λ t. (t.field ≡ Integer) × IsPast (drops_of job) t row col)
    × IsUntouched out
-- the file is no integer file, and the job needs one
IsCause job input out NeedsInteger = NeedsIntegers job × IsSteady input
    × WithFile job input (λ t. ¬ (t.field ≡ Integer)) × IsUntouched out
-- a read failed, no line that had ended is bad, and no more bytes came than the input may have
IsCause job input out ReadFault = ReadsFile job × HasReadFault input
    × IsGoodSoFar (form_of job) input × IsUntouched out
-- a write failed, and a prefix of the job's answer was taken
IsCause job input out WriteFault = HasWriteFault out × IsSteady input
    × ((answer : Answer) × WithAnswer job answer input (TookPrefix out))
-- nothing is said of why
IsCause job input out OutOfMemory = StaysKnown input × IsUntouched out
-- words that name a job are no cause
IsCause job input out Usage = ⊥

-- the input was a good file of these entries with this behind it, and no read of it failed
abbrev pub IsReadAs : Form → Device → Entries → List ℕ → Type 0
IsReadAs form input t rest = IsSteady input × OfReading input (λ call. WasRead form call t rest)

-- Why the input could not be read.
abbrev pub IsUnread : Form → Device → Refusal → Type 0
IsUnread form input (Malformed line kind) = (is_limit kind ≡ false)
    × IsBadLine form input (record { line = line; kind = kind })
IsUnread form input (Limit line kind) = (is_limit kind ≡ true)
    × IsBadLine form input (record { line = line; kind = kind })
IsUnread form input TooLong = IsTooLong form input
IsUnread form input ReadFault = HasReadFault input × IsGoodSoFar form input
IsUnread form input OutOfMemory = StaysKnown input
IsUnread form input (SumLimit row col) = ⊥
IsUnread form input NeedsInteger = ⊥
IsUnread form input WriteFault = ⊥
IsUnread form input Usage = ⊥

-- Why a good file gives no matrix.
abbrev pub IsNoMatrix : Bool → Entries → Refusal → Type 0
-- zeros are to be dropped, and it is no integer file
IsNoMatrix drop_zeros t NeedsInteger = Holds drop_zeros × ¬ (t.field ≡ Integer)
IsNoMatrix drop_zeros t OutOfMemory = Unit {0}
IsNoMatrix drop_zeros t refusal = ⊥

-- What the outcome of a job says of the input and of the output.
abbrev pub JobSays : Job → Device → Device → Result Answer Refusal → Type 0
JobSays job input out (Ok answer) = MayAnswer job answer × IsSteady input × IsSteady out
    × WithAnswer job answer input (Took out)
JobSays job input out (Err refusal) = CountHasNotFallen input × CountHasNotFallen out
    × IsCause job input out refusal

-- What a refusal says of a run.
abbrev pub HasCause : Run → Refusal → Type 0
-- the words are not taken, and nothing was read or written
HasCause r Usage = (¬ AreTaken r.words) × IsUntouched r.input × IsUntouched r.out
HasCause r OutOfMemory = CountHasNotFallen r.input × StaysKnown r.input × IsUntouched r.out
HasCause r refusal = (job : Job) × Names r.words job × CountHasNotFallen r.input
    × IsCause job r.input r.out refusal

-- The run was refused: the status is the refusal's, its line was written, and it has its cause.
pub record IsRefused (r : Run) (status : Status) : Type 0 where
  pub refusal : Refusal
  pub status_is : status ≡ status_of refusal
  pub line : WroteAsFar r.err (line_of refusal)
  pub cause : HasCause r refusal

-- what a status says of a run that was answered so, or else refused with this status
abbrev pub SaysOf : (Answer → Type 0) → (Status → Type 0) → Status → Type 0
SaysOf answered refused statuses.Ok = answered Positive
SaysOf answered refused statuses.Negative = answered Negative
SaysOf answered refused status = refused status

-- what each status says
abbrev pub Says : Run → Status → Type 0
Says r = SaysOf (IsAnswered r) (IsRefused r)

-- ---- which status has to come

-- that status, unless memory ran out
abbrev pub IsOrNoMemory : Status → Status → Type 0
IsOrNoMemory status wanted = (status ≡ wanted) ⊎ (status ≡ statuses.OutOfMemory)

-- the status of a bad line
abbrev pub status_of_fault : Fault → Status
status_of_fault fault = if is_limit fault.kind then statuses.Limit else statuses.Malformed

-- the verdict on the bytes behind a good file comes, unless memory ran out
pub record ComesToVerdict (drop_zeros : Bool) (t : Entries) (bytes : List ℕ)
    (status : Status) : Type 0 where
  pub comes : (status ≡ statuses.Negative) ⊎ IsOrNoMemory status statuses.Ok
  pub right : (a : Matrix) (verdict : Verdict) → IsMatrixOf drop_zeros t a
      → IsVerdict a bytes verdict → IsOrNoMemory status (status_of_answer (answer_of verdict))

-- no place's sum passes the limit
abbrev pub IsWithin : Entries → Type 0
IsWithin t = (r c : ℕ) → weight_of t r c ≤ weight_limit

-- the diagonal of a good integer file comes, or why there is none, unless memory ran out
pub record ComesToDiagonal (drop_zeros : Bool) (t : Entries) (status : Status) : Type 0 where
  pub comes : IsWithin t → (status ≡ statuses.Negative) ⊎ IsOrNoMemory status statuses.Ok
  pub rectangular : IsWithin t → (a : Matrix) → IsMatrixOf drop_zeros t a → ¬ (a.rows ≡ cols a)
      → IsOrNoMemory status statuses.Negative
  pub singular : IsWithin t → (a : Matrix) (k : ℕ) → IsMatrixOf drop_zeros t a → IsRank a k
      → k < cols a → IsOrNoMemory status statuses.Negative
  pub full : IsWithin t → (a : Matrix) → IsMatrixOf drop_zeros t a → a.rows ≡ cols a
      → IsRank a (cols a) → IsOrNoMemory status statuses.Ok

-- how a job ends over a good file of the field that it needs, where no device failed
abbrev pub EndsWell : Job → Entries → List ℕ → Status → Type 0
EndsWell (Diagonal drop_zeros) t rest status = ComesToDiagonal drop_zeros t status
EndsWell (Bottleneck drop_zeros) t rest status = ComesToDiagonal drop_zeros t status
EndsWell (Check drop_zeros) t rest status = ComesToVerdict drop_zeros t rest status
EndsWell job t rest status = IsOrNoMemory status statuses.Ok

pub record Completes (r : Run) (status : Status) : Type 0 where
  -- words that are not taken are refused
  pub usage : ¬ AreTaken r.words → IsOrNoMemory status statuses.Usage
  -- a bad line that the input gave is answered, whatever follows it
  pub bad_line : (job : Job) → NamesReader r.words job
      → OfReading r.input (λ call. (fault : Fault) → first_bad_in (form_of job) call ≡ Some fault
      → IsOrNoMemory status (status_of_fault fault))
  -- a good file within the limits, of the field that the job needs, is answered, where no device failed
  pub good : (job : Job) → NamesReader r.words job → ¬ HasReadFault r.input → ¬ HasWriteFault r.out
      → OfReading r.input (λ call. (t : Entries) (rest : List ℕ)
      → IsGoodInput (form_of job) call.before t rest → length call.before ≤ max_input_bytes
      → IsFitFor job t → EndsWell job t rest status)
  -- a good file of another field is refused for that by a job that needs integers, whatever comes of writes
  pub other_field : (job : Job) → NamesReader r.words job → NeedsIntegers job
      → ¬ HasReadFault r.input → OfReading r.input (λ call. (t : Entries) (rest : List ℕ)
      → IsGoodInput (form_of job) call.before t rest → length call.before ≤ max_input_bytes
      → ¬ (t.field ≡ Integer) → IsOrNoMemory status statuses.NeedsInteger)
  -- so is a sum past the limit, by a job that adds up values
  pub past : (job : Job) → NamesReader r.words job → Weighs job → ¬ HasReadFault r.input
      → OfReading r.input (λ call. (t : Entries) (rest : List ℕ)
      → IsGoodInput (form_of job) call.before t rest → length call.before ≤ max_input_bytes
      → t.field ≡ Integer → (r c : ℕ) → weight_limit < weight_of t r c
      → IsOrNoMemory status statuses.Limit)
  -- what is no good file within the limits is refused by its kind, where no read failed
  pub not_good : (job : Job) → NamesReader r.words job → ¬ HasReadFault r.input
      → OfReading r.input (λ call.
      ((t : Entries) (rest : List ℕ) → IsGoodInput (form_of job) call.before t rest
      → ¬ (length call.before ≤ max_input_bytes))
      → ((status ≡ statuses.Malformed) ⊎ (status ≡ statuses.Limit))
      ⊎ (status ≡ statuses.OutOfMemory))
  -- more bytes than the input may have are refused for their number, whatever failed, where no line that had ended is bad
  pub too_many : (job : Job) → NamesReader r.words job
      → OfReading r.input (λ call. first_bad_in (form_of job) call ≡ None
      → call.room < length (got call) → IsOrNoMemory status statuses.Limit)
  -- so is an input that is too long, where no read failed and no line that ends within the limit is bad
  pub too_long : (job : Job) → NamesReader r.words job → ¬ HasReadFault r.input
      → OfReading r.input (λ call. max_input_bytes < length call.before
      → first_fault_in (form_of job) false (take max_input_bytes call.before) ≡ None
      → IsOrNoMemory status statuses.Limit)
  -- a matrix that is made is answered, whatever the input, where no write failed
  pub made : NameMaker r.words → ¬ HasWriteFault r.out → IsOrNoMemory status statuses.Ok
