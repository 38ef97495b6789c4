-- How a run ends: the status of an answer, and the status and the line that tell a refusal.
use Rattle.std.specs.Prelude.{ℕ, List}
use Rattle.std.specs.declared.io.ErrorKind.{ErrorKind}
use Rattle.std.specs.declared.io.ErrorKind.TheVariants as kinds
use Rattle.sp_ids.specs.declared.outcomes.Status.{Status}
use Rattle.sp_ids.specs.declared.outcomes.Status.TheVariants as statuses
use Rattle.mm_defs.specs.declared.answers.ReadError.{ReadError}
use Rattle.mm_defs.specs.declared.answers.ReadError.TheVariants as errors
use Rattle.sp_pattern.specs.declared.weights.WeightError.{WeightError}
use Rattle.sp_pattern.specs.declared.weights.WeightError.TheVariants as weighings
use Rattle.btf_words.specs.UsageLine.{usage_line}
use Rattle.btf_words.specs.declared.jobs.WordsError.{WordsError}
use Rattle.btf_words.specs.declared.jobs.WordsError.TheVariants as wants
use Rattle.btf_lines.specs.Lines.{malformed_line, limit_line, needs_integer_line, sum_limit_line, too_long_line, read_fault_line, write_fault_line, out_of_memory_line}
use Rattle.btf_tool.specs.declared.answers.Answer.{Answer}
use Rattle.btf_tool.specs.declared.answers.Answer.TheVariants.{Negative, Positive}
use Rattle.btf_tool.specs.declared.refusals.Refusal.{Refusal}
use Rattle.btf_tool.specs.declared.refusals.Refusal.TheVariants.{Usage, Malformed, Limit, TooLong, SumLimit, NeedsInteger, ReadFault, WriteFault, OutOfMemory}

abbrev pub status_of_answer : Answer → Status
status_of_answer Positive = statuses.Ok
status_of_answer Negative = statuses.Negative

abbrev pub status_of : Refusal → Status
status_of Usage = statuses.Usage
status_of (Malformed line kind) = statuses.Malformed
status_of (Limit line kind) = statuses.Limit
status_of TooLong = statuses.Limit
status_of (SumLimit row col) = statuses.Limit
status_of NeedsInteger = statuses.NeedsInteger
status_of ReadFault = statuses.ReadFault
status_of WriteFault = statuses.WriteFault
status_of OutOfMemory = statuses.OutOfMemory

-- the line on the standard error
abbrev pub line_of : Refusal → List ℕ
line_of Usage = usage_line
line_of (Malformed line kind) = malformed_line line kind
line_of (Limit line kind) = limit_line line kind
line_of TooLong = too_long_line
line_of (SumLimit row col) = sum_limit_line row col
line_of NeedsInteger = needs_integer_line
line_of ReadFault = read_fault_line
line_of WriteFault = write_fault_line
line_of OutOfMemory = out_of_memory_line

-- why there are no words: memory ran out, or one of them is not UTF-8, which no program takes
abbrev pub want_of_words : ErrorKind → WordsError
want_of_words kinds.OutOfMemory = wants.OutOfMemory
want_of_words _ = wants.Usage

-- the refusal of a run whose words name no job
abbrev pub refusal_without_words : WordsError → Refusal
refusal_without_words wants.Usage = Usage
refusal_without_words wants.OutOfMemory = OutOfMemory

-- the refusal of a run whose input could not be read
abbrev pub refusal_for : ReadError → Refusal
refusal_for (errors.Malformed line kind) = Malformed line kind
refusal_for (errors.Limit line kind) = Limit line kind
refusal_for errors.TooLong = TooLong
refusal_for errors.ReadFault = ReadFault
refusal_for errors.OutOfMemory = OutOfMemory

-- the refusal of a run over a file that has no weights
abbrev pub refusal_without_weights : WeightError → Refusal
refusal_without_weights (weighings.SumLimit row col) = SumLimit row col
refusal_without_weights weighings.OutOfMemory = OutOfMemory
