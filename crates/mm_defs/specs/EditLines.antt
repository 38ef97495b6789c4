-- Edit lines: which are skipped, and their faults.
use Rattle.std.specs.Prelude.{◌+◌, ◌==◌, ◌||◌, not, nat_le, ℕ, Bool, if◌then◌else◌, List, [], ◌∷◌, ◌++◌, length, codes}
use Rattle.std.specs.Str.{bytes_eq}
use Rattle.sp_ids.specs.Limits.{max_edits}
use Rattle.mm_defs.specs.declared.kinds.Kind.TheVariants.{Edits, EditWord, EditWords, RowNumber, ColumnNumber, RowRange, ColumnRange}
use Rattle.mm_defs.specs.Words.{Word, Line, word, numbered, kept}
use Rattle.mm_defs.specs.Numbers.{is_number, number}
use Rattle.mm_defs.specs.Faults.{Rule, is_outside}
use Rattle.mm_defs.specs.File.{Fault, fault_by}

-- ---- one line

abbrev pub is_set : List Word → Bool
is_set ws = bytes_eq (word ws 0) (codes "set")

abbrev pub is_clear : List Word → Bool
is_clear ws = bytes_eq (word ws 0) (codes "clear")

abbrev pub is_report : List Word → Bool
is_report ws = bytes_eq (word ws 0) (codes "report")

-- the row and the column that a line tells
abbrev pub edit_place_rules : ℕ → ℕ → List Word → List Rule
edit_place_rules rows cols ws =
    (RowNumber, not (is_number (word ws 1)))
    ∷ (ColumnNumber, not (is_number (word ws 2)))
    ∷ (RowRange, is_outside rows (number (word ws 1)))
    ∷ (ColumnRange, is_outside cols (number (word ws 2)))
    ∷ []

-- of a line behind so many edit lines, of a matrix of so many rows and columns
abbrev pub edit_rules : ℕ → ℕ → ℕ → List Word → List Rule
edit_rules rows cols before ws =
    (Edits, nat_le max_edits before)
    ∷ (EditWord, not (is_set ws || is_clear ws || is_report ws))
    ∷ (EditWords, not (length ws == (if is_report ws then 1 else 3)))
    ∷ (if is_report ws then [] else edit_place_rules rows cols ws)

-- ---- all lines

-- the lines that are not skipped, of lines that come behind so many
abbrev pub edit_lines : ℕ → List (List ℕ) → List Line
edit_lines n ls = kept (numbered (n + 1) ls)

-- the faults of edit lines behind so many edit lines
abbrev pub edit_faults_from : ℕ → ℕ → ℕ → List Line → List Fault
edit_faults_from rows cols before [] = []
edit_faults_from rows cols before (l ∷ ls) = fault_by (edit_rules rows cols before) l
    ++ edit_faults_from rows cols (before + 1) ls

unfoldable pub edit_faults : ℕ → ℕ → ℕ → List (List ℕ) → List Fault
edit_faults n rows cols ls = edit_faults_from rows cols 0 (edit_lines n ls)
