-- The entries that a file gives.
use Rattle.std.specs.Prelude.{ℕ, ℤ, List, [], ◌∷◌, ◌++◌, ◌<◌, map}
use Rattle.sp_ids.specs.declared.triples.Field.{Field}

-- an entry: where it stands, counted from 0, and its value, which is 0 where the field is not integer
pub record Triple : Type 0 where
  pub row : ℕ
  pub col : ℕ
  pub value : ℤ

pub record Entries : Type 0 where
  pub rows : ℕ
  pub cols : ℕ
  pub field : Field
  pub items : List Triple

-- where an entry stands
abbrev pub place : Triple → ℕ × ℕ
place t = (t.row, t.col)

-- where the entries stand, in order
abbrev pub places : Entries → List (ℕ × ℕ)
places t = map place t.items

-- the values of the entries, in order
abbrev pub values : Entries → List ℤ
values t = map (λ (t : Triple). t.value) t.items

-- the entries with one more at their end
abbrev pub with_entry : Entries → Triple → Entries
with_entry t item = record {
  rows = t.rows;
  cols = t.cols;
  field = t.field;
  items = t.items ++ item ∷ [];
}

-- the place is in a matrix of so many rows and columns
abbrev pub IsInside : ℕ → ℕ → ℕ × ℕ → Type 0
IsInside rows cols p = (p.0 < rows) × (p.1 < cols)
