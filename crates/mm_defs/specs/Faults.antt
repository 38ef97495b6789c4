-- The kinds of faults, line by line, each list in the order in which the kinds are tried.
use Rattle.std.specs.Prelude.{ℕ, Bool, true, false, if◌then◌else◌, ◌==◌, ◌+◌, ◌&&◌, ◌||◌, not, nat_lt, List, [], ◌∷◌, ◌++◌, length, codes, Option, Some, None, is_none}
use Rattle.std.specs.List.{list_all}
use Rattle.std.specs.Str.{bytes_eq}
use Rattle.sp_ids.specs.Limits.{max_cols, max_entry_lines, max_rows, max_value}
use Rattle.sp_ids.specs.declared.triples.Field as field
use Rattle.mm_defs.specs.declared.header.Header.{Header}
use Rattle.mm_defs.specs.declared.header.Size.{Size}
use Rattle.mm_defs.specs.declared.header.Symmetry as symmetry
use Rattle.mm_defs.specs.declared.kinds.Kind.{Kind}
use Rattle.mm_defs.specs.declared.kinds.Kind.TheVariants.{NoBanner, HeaderWords, Object, Format, Field, Symmetry, ArrayField, Combination, SizeWords, SizeNumber, Rows, Columns, Entries, NotSquare, EntryWords, RowNumber, ColumnNumber, RowRange, ColumnRange, ValueNumber, Value, UpperEntry, DiagonalEntry, Edits, Files, FileBytes}
use Rattle.mm_defs.specs.Words.{Word, word}
use Rattle.mm_defs.specs.Numbers.{is_number, number, is_integer, magnitude}
use Rattle.mm_defs.specs.Header.{spells, named, formats, fields, symmetries, is_array, value_words, is_integer_field, is_general, is_skew, may_combine, header, size_words, size}

-- a kind, and whether it applies
abbrev pub Rule : Type 0
Rule = Kind × Bool

-- the first kind that applies
abbrev pub first_kind : List Rule → Option Kind
first_kind [] = None
first_kind (rule ∷ rules) = if rule.1 then Some rule.0 else first_kind rules

-- what does not go together
abbrev pub header_rules : Header → List Rule
header_rules h =
    (ArrayField, is_array h.format && not (is_integer_field h.field))
    ∷ (Combination, not (may_combine h.field h.symmetry))
    ∷ []

abbrev pub banner_rules : List Word → List Rule
banner_rules ws =
    (NoBanner, not (bytes_eq (word ws 0) (codes "%%MatrixMarket")))
    ∷ (HeaderWords, not (length ws == 5))
    ∷ (Object, not (spells (codes "matrix") (word ws 1)))
    ∷ (Format, is_none (named formats (word ws 2)))
    ∷ (Field, is_none (named fields (word ws 3)))
    ∷ (Symmetry, is_none (named symmetries (word ws 4)))
    ∷ header_rules (header ws)

abbrev pub extent_rules : ℕ → ℕ → List Rule
extent_rules rows cols =
    (Rows, nat_lt max_rows rows)
    ∷ (Columns, nat_lt max_cols cols)
    ∷ []

abbrev pub count_rules : Header → Size → List Rule
count_rules h s =
    (Entries, nat_lt max_entry_lines s.count)
    ∷ (NotSquare, not (is_general h.symmetry) && not (s.rows == s.cols))
    ∷ []

abbrev pub size_limits : Header → Size → List Rule
size_limits h s = extent_rules s.rows s.cols ++ count_rules h s

abbrev pub size_rules : Header → List Word → List Rule
size_rules h ws =
    (SizeWords, not (length ws == size_words h.format))
    ∷ (SizeNumber, not (list_all is_number ws))
    ∷ size_limits h (size h ws)

abbrev pub is_outside : ℕ → ℕ → Bool
is_outside limit n = (n == 0) || nat_lt limit n

abbrev pub value_rules : field.Field → Word → List Rule
value_rules f w =
    (ValueNumber, is_integer_field f && not (is_integer w))
    ∷ (Value, is_integer_field f && nat_lt max_value (magnitude w))
    ∷ []

abbrev pub triangle_rules : symmetry.Symmetry → ℕ → ℕ → List Rule
triangle_rules y i j =
    (UpperEntry, not (is_general y) && nat_lt i j)
    ∷ (DiagonalEntry, is_skew y && (i == j))
    ∷ []

abbrev pub place_rules : Header → Size → ℕ → ℕ → Word → List Rule
place_rules h s i j w =
    (RowRange, is_outside s.rows i)
    ∷ (ColumnRange, is_outside s.cols j)
    ∷ value_rules h.field w ++ triangle_rules h.symmetry i j

abbrev pub coordinate_rules : Header → Size → List Word → List Rule
coordinate_rules h s ws =
    (EntryWords, not (length ws == 2 + value_words h.field))
    ∷ (RowNumber, not (is_number (word ws 0)))
    ∷ (ColumnNumber, not (is_number (word ws 1)))
    ∷ place_rules h s (number (word ws 0)) (number (word ws 1)) (word ws 2)

-- a value line says no place: which one it has, the lines before it tell
abbrev pub array_rules : Header → List Word → List Rule
array_rules h ws = (EntryWords, not (length ws == 1)) ∷ value_rules h.field (word ws 0)

-- an entry line, or a value line of an array file
abbrev pub entry_rules : Header → Size → List Word → List Rule
entry_rules h s ws =
    if is_array h.format
    then array_rules h ws
    else coordinate_rules h s ws

-- the kinds that tell of a limit
abbrev pub is_limit : Kind → Bool
is_limit Rows = true
is_limit Columns = true
is_limit Entries = true
is_limit Value = true
is_limit Edits = true
is_limit Files = true
is_limit FileBytes = true
is_limit kind = false
