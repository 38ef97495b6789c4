-- What the input of a job is to be: a matrix file, or one with something behind its last entry line.
use Rattle.std.specs.Prelude.{◌≡◌, ℕ, Bool, true, List, [], Option}
use Rattle.sp_ids.specs.Entries.{Entries}
use Rattle.mm_defs.specs.Calls.{Call, ended, given}
use Rattle.mm_defs.specs.EditedFiles.{edited_faults, first_edited_fault}
use Rattle.mm_defs.specs.File.{Fault, Reads, first_fault}
use Rattle.mm_defs.specs.Words.{lines}
use Rattle.mm_defs.specs.declared.answers.End.{End}
use Rattle.mm_defs.specs.declared.answers.End.TheVariants.{File, LastEntry}

pub data Form : Type 0 where
  -- a matrix file, up to the end of the input
  Alone : Form
  -- a matrix file, and any bytes behind its last entry line
  Followed : Form
  -- a matrix file, and edit lines behind its last entry line
  Edited : Form

-- where the matrix ends
abbrev pub end_in : Form → End
end_in Alone = File
end_in Followed = LastEntry
end_in Edited = LastEntry

-- The first fault of what was given; the input ended there or it did not.
abbrev pub first_fault_in : Form → Bool → List ℕ → Option Fault
first_fault_in Alone ended given = first_fault File ended given
first_fault_in Followed ended given = first_fault LastEntry ended given
first_fault_in Edited ended given = first_edited_fault ended given

-- the first bad line among those that the call was given
abbrev pub first_bad_in : Form → Call → Option Fault
first_bad_in form call = first_fault_in form (ended call) (given call)

-- the edit lines have no fault, where there are to be such lines
abbrev pub HasGoodEdits : Form → List ℕ → Type 0
HasGoodEdits Alone bytes = Unit {0}
HasGoodEdits Followed bytes = Unit {0}
HasGoodEdits Edited bytes = edited_faults true (lines true bytes) ≡ []

-- The bytes are what they are to be: a good file with these entries, and behind it these bytes.
pub record IsGoodInput (form : Form) (bytes : List ℕ) (t : Entries) (rest : List ℕ) : Type 0 where
  pub reads : Reads bytes (end_in form) t rest
  pub edits : HasGoodEdits form bytes
