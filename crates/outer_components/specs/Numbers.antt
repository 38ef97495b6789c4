-- The numbers of the connected components of a horizontal part.
use Rattle.std.specs.Prelude.{◌≡◌, ℕ, ◌<◌, ◌≤◌, List, length, slice_index}
use Rattle.bip_defs.specs.Blocks.{ColAt, RowAt, Vertex}
use Rattle.bip_defs.specs.ConnectedComponents.{IsHorizontalVertex, Joined}
use Rattle.bip_defs.specs.Lists.{IsRising}
use Rattle.bip_defs.specs.Matrix.{IsEntry, Matrix, cols}
use Rattle.bip_defs.specs.Parts.{IsHorizontalCol}

-- chains join the vertex with the column from which number k was given first
abbrev pub IsOfRoot : Matrix → List ℕ → ℕ → Vertex → Type 0
IsOfRoot a roots k v = (k < length roots)
    × Joined a (IsHorizontalVertex a) (ColAt (slice_index roots k)) v

-- each component's root is its least column, the roots rise, and entries join rows and columns of one number alone
pub record AreNumbers (a : Matrix) (count : ℕ) (rs cs : List ℕ) : Type 0 where
  pub roots : List ℕ
  pub count_is : length roots ≡ count
  pub rising : IsRising roots
  pub root : (k : ℕ) → k < count
      → IsHorizontalCol a (slice_index roots k) × (slice_index cs (slice_index roots k) ≡ k)
  pub long_rows : length rs ≡ a.rows
  pub long_cols : length cs ≡ cols a
  pub row : (r : ℕ) → r < a.rows → slice_index rs r < count
      → IsOfRoot a roots (slice_index rs r) (RowAt r)
  pub col : (c : ℕ) → c < cols a → slice_index cs c < count
      → IsOfRoot a roots (slice_index cs c) (ColAt c) × (slice_index roots (slice_index cs c) ≤ c)
  pub numbered : (c : ℕ) → IsHorizontalCol a c → slice_index cs c < count
  pub same : (r c : ℕ) → IsHorizontalCol a c → IsEntry a r c
      → slice_index rs r ≡ slice_index cs c
