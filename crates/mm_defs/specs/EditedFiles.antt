-- A matrix file with edit lines behind its last entry line: its faults, and what a good one is.
use Rattle.std.specs.Prelude.{ℕ, Bool, List, ◌++◌, drop, slice_get, Option}
use Rattle.mm_defs.specs.declared.answers.End.TheVariants.{LastEntry}
use Rattle.mm_defs.specs.Calls.{Call, ended, given}
use Rattle.mm_defs.specs.EditLines.{edit_faults}
use Rattle.mm_defs.specs.File.{Fault, faults, last_number, matrix_lines, size_of}
use Rattle.mm_defs.specs.Words.{lines}

-- how many lines the matrix takes, with those that are skipped before its last one
abbrev pub matrix_end : List (List ℕ) → ℕ
matrix_end ls = last_number (matrix_lines ls)

-- The faults of the matrix's lines, and behind them those of the edit lines. While a line of the matrix is wanted, what
-- stands behind the last one that has come are skipped lines alone, which have no fault.
unfoldable pub edited_faults : Bool → List (List ℕ) → List Fault
edited_faults ended ls = faults LastEntry ended ls
    ++ edit_faults (matrix_end ls) (size_of ls).rows (size_of ls).cols (drop (matrix_end ls) ls)

-- The first fault of what was given; it ended there or it did not.
unfoldable pub first_edited_fault : Bool → List ℕ → Option Fault
first_edited_fault ended given = slice_get (edited_faults ended (lines ended given)) 0

-- the first bad line among those that the call was given
abbrev pub first_bad_edited : Call → Option Fault
first_bad_edited call = first_edited_fault (ended call) (given call)
