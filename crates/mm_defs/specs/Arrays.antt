-- The values of array files: of which places they are, in which order, and how many there are.
use Rattle.std.specs.Prelude.{ℕ, if◌then◌else◌, ◌+◌, ◌-◌, ◌*◌, ◌/◌, ◌<◌, ◌≤◌, nat_lt, List, map}
use Rattle.std.specs.List.{flat_map, range_with_len}
use Rattle.mm_defs.specs.declared.header.Symmetry.{Symmetry}
use Rattle.mm_defs.specs.declared.header.Symmetry.TheVariants.{General, Symmetric, SkewSymmetric, Hermitian}

-- the first row of a column that has a value: the values are those of all rows, or of the rows from the diagonal down, or
-- of those below it
abbrev pub first_row : Symmetry → ℕ → ℕ
first_row General col = 0
first_row Symmetric col = col
first_row SkewSymmetric col = col + 1
first_row Hermitian col = col

-- the place is one of a matrix of so many rows and columns, and has a value
abbrev pub HasValue : Symmetry → ℕ → ℕ → ℕ × ℕ → Type 0
HasValue y rows cols p = (p.0 < rows) × (p.1 < cols) × (first_row y p.1 ≤ p.0)

-- the places of a column that have values, from the top
abbrev pub column_places : Symmetry → ℕ → ℕ → List (ℕ × ℕ)
column_places y rows col = map (λ row. (row, col))
    (range_with_len (first_row y col) (rows - first_row y col))

-- the places that have values, column by column: the order of the value lines
abbrev pub array_places : Symmetry → ℕ → ℕ → List (ℕ × ℕ)
array_places y rows cols = flat_map (column_places y rows) (range_with_len 0 cols)

-- the place whose value comes behind that of this one: the place below it, or the first of the next column
abbrev pub following : Symmetry → ℕ → ℕ × ℕ → ℕ × ℕ
following y rows p =
    if nat_lt (p.0 + 1) rows
    then (p.0 + 1, p.1)
    else (first_row y (p.1 + 1), p.1 + 1)

-- how many values there are: by the rows alone where the matrix has to be square
abbrev pub value_count : Symmetry → ℕ → ℕ → ℕ
value_count General rows cols = rows * cols
value_count Symmetric rows cols = rows * (rows + 1) / 2
value_count SkewSymmetric rows cols = rows * (rows - 1) / 2
value_count Hermitian rows cols = rows * (rows + 1) / 2
