-- What contracts see of mates that were set one by one, and how flat arrays store them.
use Rattle.std.specs.Prelude.{◌≡◌, ◌↔◌, ℕ, ◌<◌, ◌^◌, ◌==◌, if◌then◌else◌, List, length, Option, None, Some}
use Rattle.bip_defs.specs.Lists.{option_at}
use Rattle.bip_graph.specs.Matching.{none}

-- for each row its column, and for each column its row, if it has one
pub record Mated : Type 0 where
  pub rows : List (Option ℕ)
  pub cols : List (Option ℕ)

-- a row's column has that row, and a column's row has that column
abbrev pub AreMutual : Mated → Type 0
AreMutual m = (r c : ℕ) → (option_at m.rows r ≡ Some c) ↔ (option_at m.cols c ≡ Some r)

-- what a number in the array stands for
abbrev pub mate_of : ℕ → Option ℕ
mate_of n = if n == none then None else Some n

-- the numbers of rows and columns fit 4 bytes
pub record AreFew (row_of_col col_of_row : List ℕ) : Type 0 where
  pub cols : length row_of_col < 2 ^ 32
  pub rows : length col_of_row < 2 ^ 32
