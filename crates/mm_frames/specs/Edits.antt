-- What edit lines say, and what the answers of their reader say of the bytes that it was given.
use Rattle.std.specs.Prelude.{◌≡◌, ◌≤◌, ◌<◌, ◌-◌, ℕ, Bool, true, false, if◌then◌else◌, List, [], length, map, slice_get, Option, Some, None, Result, Ok, Err}
use Rattle.mm_defs.specs.declared.answers.ReadError.{ReadError}
use Rattle.mm_defs.specs.declared.answers.ReadError.TheVariants as errors
use Rattle.mm_defs.specs.declared.kinds.Kind.{Kind}
use Rattle.mm_defs.specs.declared.kinds.Kind.TheVariants.{Edits, EditWord, EditWords, RowNumber, ColumnNumber, RowRange, ColumnRange}
use Rattle.mm_defs.specs.EditLines.{edit_faults, edit_lines, is_report, is_set}
use Rattle.mm_defs.specs.Words.{Word, Line, word, lines}
use Rattle.mm_defs.specs.Numbers.{number}
use Rattle.mm_defs.specs.Faults.{is_limit}
use Rattle.mm_defs.specs.File.{Fault}
use Rattle.mm_defs.specs.Calls.{Call, ended, given, got, offered}
use Rattle.mm_frames.specs.declared.edit.Edit.{Edit}
use Rattle.mm_frames.specs.declared.edit.Edit.TheVariants.{Set, Clear, Report}

-- ---- what the lines say

-- rows and columns count from 1 in lines, and from 0 here
abbrev pub edit : List Word → Edit
edit ws =
    if is_report ws
    then Report
    else (if is_set ws
    then Set (number (word ws 1) - 1) (number (word ws 2) - 1)
    else Clear (number (word ws 1) - 1) (number (word ws 2) - 1))

-- what the lines say
abbrev pub edits_of : ℕ → List (List ℕ) → List Edit
edits_of n ls = map (λ (l : Line). edit l.words) (edit_lines n ls)

-- the first bad line among the bytes that the call was given
abbrev pub first_bad_edit : ℕ → ℕ → ℕ → Call → Option Fault
first_bad_edit n rows cols call =
    slice_get (edit_faults n rows cols (lines (ended call) (given call))) 0

-- all that the call could come to are good edit lines within the limit, and nothing is left
pub record ReadsEdits (n rows cols : ℕ) (call : Call) (es : List Edit)
    (left : List ℕ) : Type 0 where
  pub good : edit_faults n rows cols (lines true (offered call)) ≡ []
  pub edits_are : es ≡ edits_of n (lines true (offered call))
  pub nothing_left : left ≡ []
  pub within : length (offered call) ≤ call.room

-- Why no edits are given; n lines were used before. A read is only made while all that came is within the limit.
abbrev pub RefusesEdits : ℕ → ℕ → ℕ → Call → ReadError → Type 0
RefusesEdits n rows cols call (errors.Malformed line kind) =
    (first_bad_edit n rows cols call ≡ Some (record { line = line; kind = kind }))
    × (is_limit kind ≡ false)
RefusesEdits n rows cols call (errors.Limit line kind) =
    (first_bad_edit n rows cols call ≡ Some (record { line = line; kind = kind }))
    × (is_limit kind ≡ true)
RefusesEdits n rows cols call errors.TooLong = (first_bad_edit n rows cols call ≡ None)
    × (call.room < length (got call))
RefusesEdits n rows cols call errors.ReadFault = (first_bad_edit n rows cols call ≡ None)
    × (call.failures_before < call.failures_after) × (length (got call) ≤ call.room)
RefusesEdits n rows cols call errors.OutOfMemory = Unit {0}

-- the kinds of bad edit lines
abbrev pub is_edit_kind : Kind → Bool
is_edit_kind Edits = true
is_edit_kind EditWord = true
is_edit_kind EditWords = true
is_edit_kind RowNumber = true
is_edit_kind ColumnNumber = true
is_edit_kind RowRange = true
is_edit_kind ColumnRange = true
is_edit_kind kind = false

-- where a line is told, a kind of a bad edit line is
abbrev pub HasEditKind : ReadError → Type 0
HasEditKind (errors.Malformed line kind) = is_edit_kind kind ≡ true
HasEditKind (errors.Limit line kind) = is_edit_kind kind ≡ true
HasEditKind errors.TooLong = Unit {0}
HasEditKind errors.ReadFault = Unit {0}
HasEditKind errors.OutOfMemory = Unit {0}

-- every place that is set or cleared is one of the matrix
abbrev pub IsWithinMatrix : ℕ → ℕ → Edit → Type 0
IsWithinMatrix rows cols (Set r c) = (r < rows) × (c < cols)
IsWithinMatrix rows cols (Clear r c) = (r < rows) × (c < cols)
IsWithinMatrix rows cols Report = Unit {0}

-- the input is not good after an error of reading alone
abbrev pub KeepsGood : {T : Type 0} → Bool → Result T ReadError → Type 0
KeepsGood good (Ok x) = good ≡ true
KeepsGood good (Err (errors.Malformed line kind)) = good ≡ true
KeepsGood good (Err (errors.Limit line kind)) = good ≡ true
KeepsGood good (Err errors.TooLong) = good ≡ false
KeepsGood good (Err errors.ReadFault) = good ≡ false
KeepsGood good (Err errors.OutOfMemory) = good ≡ true
