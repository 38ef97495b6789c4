-- Lists that are written in part.
use Rattle.std.specs.Prelude.{◌≡◌, ◌⊎◌, ℕ, ◌+◌, ◌<◌, ◌≤◌, List, length, slice_index}

-- the numbers stand in the list from a place on, and what stands elsewhere stays
pub record IsPut (at : ℕ) (numbers old new : List ℕ) : Type 0 where
  pub long : length new ≡ length old
  pub here : (i : ℕ) → i < length numbers → slice_index new (at + i) ≡ slice_index numbers i
  pub others : (i : ℕ) → (i < at) ⊎ (at + length numbers ≤ i)
      → slice_index new i ≡ slice_index old i
