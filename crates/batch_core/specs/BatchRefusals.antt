-- How a run over a batch is refused: the status and the line that tell why.
use Rattle.std.specs.Prelude.{ℕ, List}
use Rattle.btf_lines.specs.Lines.{batch_limit_line, batch_malformed_line, batch_out_of_memory_line, batch_read_fault_line, batch_too_long_line, batch_write_fault_line}
use Rattle.btf_words.specs.UsageLine.{batch_usage_line}
use Rattle.btf_words.specs.declared.jobs.WordsError.{WordsError}
use Rattle.btf_words.specs.declared.jobs.WordsError.TheVariants as wants
use Rattle.mm_frames.specs.declared.batch.BatchError.{BatchError}
use Rattle.mm_frames.specs.declared.batch.BatchError.TheVariants as errors
use Rattle.sp_ids.specs.declared.outcomes.Status.{Status}
use Rattle.sp_ids.specs.declared.outcomes.Status.TheVariants as statuses
use Rattle.batch_core.specs.declared.refusals.BatchRefusal.{BatchRefusal}
use Rattle.batch_core.specs.declared.refusals.BatchRefusal.TheVariants.{Limit, Malformed, OutOfMemory, ReadFault, TooLong, Usage, WriteFault}

abbrev pub status_of : BatchRefusal → Status
status_of Usage = statuses.Usage
status_of (Malformed file kind) = statuses.Malformed
status_of (Limit file kind) = statuses.Limit
status_of TooLong = statuses.Limit
status_of ReadFault = statuses.ReadFault
status_of WriteFault = statuses.WriteFault
status_of OutOfMemory = statuses.OutOfMemory

-- the line on the standard error
abbrev pub line_of : BatchRefusal → List ℕ
line_of Usage = batch_usage_line
line_of (Malformed file kind) = batch_malformed_line file kind
line_of (Limit file kind) = batch_limit_line file kind
line_of TooLong = batch_too_long_line
line_of ReadFault = batch_read_fault_line
line_of WriteFault = batch_write_fault_line
line_of OutOfMemory = batch_out_of_memory_line

-- the refusal of a run whose words are not taken
abbrev pub refusal_without_words : WordsError → BatchRefusal
refusal_without_words wants.Usage = Usage
refusal_without_words wants.OutOfMemory = OutOfMemory

-- the refusal of a run whose files could not be read
abbrev pub refusal_for : BatchError → BatchRefusal
refusal_for (errors.Malformed file kind) = Malformed file kind
refusal_for (errors.Limit file kind) = Limit file kind
refusal_for errors.TooLong = TooLong
refusal_for errors.ReadFault = ReadFault
refusal_for errors.OutOfMemory = OutOfMemory
