-- What a line is found to be.
use Rattle.std.specs.Prelude.{◌≡◌, ◌≤◌, ◌<◌, ◌-◌, ℕ, pos, nat_abs, true, false, List, [], ◌∷◌, Option, Some, None, Result, Ok, Err}
use Rattle.sp_ids.specs.Entries.{Triple}
use Rattle.sp_ids.specs.declared.triples.Field.TheVariants.{Integer}
use Rattle.sp_ids.specs.Limits.{max_cols, max_entry_lines, max_rows, max_value}
use Rattle.mm_defs.specs.declared.kinds.Kind.{Kind}
use Rattle.mm_defs.specs.declared.kinds.Kind.TheVariants.{ColumnRange, RowRange}
use Rattle.mm_defs.specs.declared.header.Header.{Header}
use Rattle.mm_defs.specs.declared.header.Size.{Size}
use Rattle.mm_defs.specs.Arrays.{value_count}
use Rattle.mm_defs.specs.Header.{is_array, is_general, is_integer_field}
use Rattle.mm_defs.specs.Faults.{Rule, first_kind, is_outside}
use Rattle.mm_reader.specs.declared.judge.Entry.{Entry}

-- no kind applies and the line says this, or the first kind that applies
abbrev pub Judged : {X : Type 0} → List Rule → X → Result X Kind → Type 0
Judged rules says (Ok x) = (first_kind rules ≡ None) × (x ≡ says)
Judged rules says (Err kind) = first_kind rules ≡ Some kind

abbrev pub triple_of : Entry → Triple
triple_of e = record { row = e.row; col = e.col; value = e.value }

-- The entry is one of such a file: its place is in the matrix, and only an integer file has values.
pub record Fits (h : Header) (s : Size) (e : Entry) : Type 0 where
  pub row : e.row < s.rows
  pub col : e.col < s.cols
  pub value : is_integer_field h.field ≡ false → e.value ≡ pos 0
  pub small : nat_abs e.value ≤ max_value

-- the same of the entry that a line says
abbrev pub JudgedEntry : List Rule → Triple → Result Entry Kind → Type 0
JudgedEntry rules says (Ok e) = (first_kind rules ≡ None) × (triple_of e ≡ says)
JudgedEntry rules says (Err kind) = first_kind rules ≡ Some kind

-- whether a row and a column, which count from 1, are in a matrix of so many rows and columns
abbrev pub range_rules : ℕ → ℕ → ℕ → ℕ → List Rule
range_rules rows cols i j =
    (RowRange, is_outside rows i)
    ∷ (ColumnRange, is_outside cols j)
    ∷ []

-- the same of a row and a column that a line tells: they count from 1 there, and from 0 in the answer
abbrev pub JudgedPlace : List Rule → ℕ → ℕ → Result (ℕ × ℕ) Kind → Type 0
JudgedPlace rules i j (Ok p) = (first_kind rules ≡ None) × (p.0 ≡ i - 1) × (p.1 ≡ j - 1)
JudgedPlace rules i j (Err kind) = first_kind rules ≡ Some kind

-- none of the rules applies, or this is the first that does
abbrev pub Passes : List Rule → Option Kind → Type 0
Passes rules found = first_kind rules ≡ found

-- an array file has integers
abbrev pub IsHeader : Header → Type 0
IsHeader h = is_array h.format ≡ true → h.field ≡ Integer

-- The sizes are within the limits, and equal where a mirror may come. An array file has as many lines as values.
pub record IsWithin (h : Header) (s : Size) : Type 0 where
  pub rows : s.rows ≤ max_rows
  pub cols : s.cols ≤ max_cols
  pub count : s.count ≤ max_entry_lines
  pub square : is_general h.symmetry ≡ false → s.rows ≡ s.cols
  pub values : is_array h.format ≡ true → s.count ≡ value_count h.symmetry s.rows s.cols
