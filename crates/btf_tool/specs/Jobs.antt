-- What each job reads or makes, and what it answers.
use Rattle.std.specs.Prelude.{◌≡◌, ◌≤◌, ◌+◌, ◌++◌, ◌||◌, ℕ, Bool, true, false, List, [], length}
use Rattle.sp_ids.specs.Entries.{Entries, places}
use Rattle.sp_ids.specs.declared.triples.Field.TheVariants.{Integer}
use Rattle.sp_ids.specs.Limits.{max_input_bytes}
use Rattle.bip_defs.specs.Matrix.{Matrix, HasPlaces, Place}
use Rattle.bip_graph.specs.Answers.{IsAnalysis, IsRankText}
use Rattle.btf_words.specs.Choices.{are_least, are_listed, number_of}
use Rattle.btf_words.specs.declared.jobs.Job.{Job}
use Rattle.btf_words.specs.declared.jobs.Job.TheVariants.{Rank, Analyse, Diagonal, Check, Load, Edit, Bottleneck}
use Rattle.mm_defs.specs.Calls.{Call, call_on, offered}
use Rattle.mm_defs.specs.Words.{lines}
use Rattle.mm_frames.specs.Edits.{edits_of}
use Rattle.mm_reader.specs.EntryLimits.{AreWithinLimits}
use Rattle.sp_ports.specs.Bytes.{WhereKnown}
use Rattle.sp_pattern.specs.Stored.{IsPattern}
use Rattle.sp_pattern.specs.Weights.{nonzero_places}
use Rattle.btf_tool.specs.declared.answers.Answer.{Answer}
use Rattle.btf_tool.specs.declared.answers.Answer.TheVariants.{Negative, Positive}
use Rattle.sp_ports.specs.Device.{Device}
use Rattle.btf_tool.specs.Bottlenecks.{IsBottleneckText}
use Rattle.btf_tool.specs.Diagonals.{IsDiagonalText}
use Rattle.btf_tool.specs.Inputs.{Form, IsGoodInput}
use Rattle.btf_tool.specs.Inputs as forms
use Rattle.btf_tool.specs.Sessions.{IsSessionText}
use Rattle.btf_tool.specs.VerdictText.{IsVerdictText}
use Rattle.btf_tool.specs.Summaries.{IsLoadMatrix, IsSummary}

-- What a job is, but for the text that it answers.
pub record Traits : Type 0 where
  -- it reads a matrix file, and else makes its matrix
  pub reads : Bool
  -- what its input is to be
  pub form : Form
  -- it adds up the values of an integer file, and takes no other
  pub weighs : Bool
  -- a place whose values add up to 0 is no entry of its matrix
  pub drops : Bool
  -- it may answer that there is no such thing
  pub denies : Bool

abbrev pub traits_of : Job → Traits
traits_of (Rank drop_zeros) = record {
  reads = true;
  form = forms.Alone;
  weighs = false;
  drops = drop_zeros;
  denies = false;
}
traits_of (Analyse choice report drop_zeros) = record {
  reads = true;
  form = forms.Alone;
  weighs = false;
  drops = drop_zeros;
  denies = false;
}
traits_of (Diagonal drop_zeros) = record {
  reads = true;
  form = forms.Alone;
  weighs = true;
  drops = drop_zeros;
  denies = true;
}
traits_of (Check drop_zeros) = record {
  reads = true;
  form = forms.Followed;
  weighs = false;
  drops = drop_zeros;
  denies = true;
}
traits_of (Load size seed choice) = record {
  reads = false;
  form = forms.Alone;
  weighs = false;
  drops = false;
  denies = false;
}
traits_of Edit = record {
  reads = true;
  form = forms.Edited;
  weighs = false;
  drops = false;
  denies = false;
}
traits_of (Bottleneck drop_zeros) = record {
  reads = true;
  form = forms.Alone;
  weighs = true;
  drops = drop_zeros;
  denies = true;
}

abbrev pub Holds : Bool → Type 0
Holds true = Unit {0}
Holds false = ⊥

abbrev pub ReadsFile : Job → Type 0
ReadsFile job = Holds (traits_of job).reads

abbrev pub form_of : Job → Form
form_of job = (traits_of job).form

abbrev pub Weighs : Job → Type 0
Weighs job = Holds (traits_of job).weighs

abbrev pub drops_of : Job → Bool
drops_of job = (traits_of job).drops

-- it asks what values add up to, for weights or for zeros
abbrev pub NeedsIntegers : Job → Type 0
NeedsIntegers job = Holds ((traits_of job).weighs || (traits_of job).drops)

-- the file is an integer file where the job needs one
abbrev pub IsFitFor : Job → Entries → Type 0
IsFitFor job t = NeedsIntegers job → t.field ≡ Integer

abbrev pub MayAnswer : Job → Answer → Type 0
MayAnswer job Positive = Unit {0}
MayAnswer job Negative = Holds (traits_of job).denies

-- the reading of an input that told these bytes before and has these left
abbrev pub reading : Device → List ℕ → List ℕ → Call
reading input before after =
    call_on max_input_bytes [] input.failed_before input.failed_after before after

-- what holds of the reading, where the input tells its bytes
abbrev pub OfReading : Device → (Call → Type 0) → Type 0
OfReading input P = WhereKnown input.before input.after
    (λ before after. P (reading input before after))

-- what is left is the end of what there was, and at most one byte past the limit was taken
pub record GavePrefix (call : Call) : Type 0 where
  pub gave : List ℕ
  pub in_order : call.before ≡ gave ++ call.after
  pub few : length gave ≤ call.room + 1

-- the input was a good one with these entries and with this behind them, within the limit, and was read to its end
pub record WasRead (form : Form) (call : Call) (t : Entries) (rest : List ℕ) : Type 0 where
  pub good : IsGoodInput form (offered call) t rest
  pub within : length (offered call) ≤ call.room
  pub to_the_end : call.after ≡ []

-- where the file's matrix has entries: at all places that the file gives, or, where zeros are dropped, at those whose values do not add up to 0
abbrev pub entry_places : Bool → Entries → List Place
entry_places false t = places t
entry_places true t = nonzero_places t

-- the matrix with an entry at each of these places, and at no other
abbrev pub IsMatrixOf : Bool → Entries → Matrix → Type 0
IsMatrixOf drop_zeros t a = HasPlaces t.rows t.cols (entry_places drop_zeros t) a

-- the text that a job answers over its file, the file's matrix and what followed the file, and whether it is what was asked for
abbrev pub IsTextOf : Job → Entries → Matrix → List ℕ → Answer → List ℕ → Type 0
IsTextOf (Rank drop_zeros) t a rest answer text = (answer ≡ Positive) × IsRankText a text
IsTextOf (Analyse choice report drop_zeros) t a rest answer text = (answer ≡ Positive)
    × IsAnalysis a (number_of report.version) report.order (are_listed report.pairs)
    (are_least report.pairs) text
IsTextOf (Diagonal drop_zeros) t a rest answer text = IsDiagonalText t a answer text
IsTextOf (Check drop_zeros) t a rest answer text = IsVerdictText a rest answer text
IsTextOf (Load size seed choice) t a rest answer text = (answer ≡ Positive) × IsSummary a text
IsTextOf Edit t a rest answer text = (answer ≡ Positive)
    × IsSessionText a (edits_of 0 (lines true rest)) text
IsTextOf (Bottleneck drop_zeros) t a rest answer text = IsBottleneckText t a answer text

-- What the job answers over a file of the field that it needs, whose sizes are within the limits. Where the input tells
-- its bytes they were that file, which was a good one, with what follows it.
pub record IsAnswer (job : Job) (input : Device) (answer : Answer)
    (text : List ℕ) : Type 0 where
  pub entries : Entries
  pub rest : List ℕ
  pub matrix : Matrix
  pub was_read : OfReading input (λ call. WasRead (form_of job) call entries rest)
  pub within : AreWithinLimits entries
  pub is_fit : IsFitFor job entries
  pub is_matrix : IsMatrixOf (drops_of job) entries matrix
  pub fits : IsPattern matrix
  pub is_text : IsTextOf job entries matrix rest answer text

-- a matrix was made, and this is its summary
pub record IsLoadAnswer (size seed : ℕ) (answer : Answer) (text : List ℕ) : Type 0 where
  pub matrix : Matrix
  pub is_matrix : IsLoadMatrix size seed matrix
  pub is_summary : IsSummary matrix text
  pub positive : answer ≡ Positive

-- what was done with the answer over a file, whether the input tells its bytes or not
abbrev pub WithFileAnswer : Job → Answer → Device → (List ℕ → Type 0) → Type 0
WithFileAnswer job answer input P = (text : List ℕ) × IsAnswer job input answer text × P text

-- what was done with the job's answer
abbrev pub WithAnswer : Job → Answer → Device → (List ℕ → Type 0) → Type 0
WithAnswer (Load size seed choice) answer input P = (text : List ℕ)
    × IsLoadAnswer size seed answer text × P text
WithAnswer job answer input P = WithFileAnswer job answer input P
