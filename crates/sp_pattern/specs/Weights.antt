-- The weights of a matrix's entries: the magnitudes of the sums of a file's values.
use Rattle.std.specs.Int.RustNames.{unsigned_abs}
use Rattle.std.specs.List.{slice_range}
use Rattle.std.specs.Prelude.{◌≡◌, ◌⊎◌, ℕ, ℤ, pos, zero, suc, ◌+◌, ◌+ℤ◌, ◌<◌, ◌≤◌, ◌&&◌, List, [], ◌∷◌, filter, length, take, nat_eq, nat_lt, if◌then◌else◌, slice_index, slice_index_or, sum_by}
use Rattle.bip_defs.specs.Matrix.{IsEntry, Matrix, Place, column, entry_count}
use Rattle.sp_ids.specs.Entries.{Entries, Triple, places}
use Rattle.sp_ids.specs.Limits.{max_value}

-- the sum of the values that are given for a place
abbrev pub sum_of : List Triple → ℕ → ℕ → ℤ
sum_of [] r c = pos 0
sum_of (t ∷ ts) r c =
    if nat_eq t.row r && nat_eq t.col c then t.value +ℤ sum_of ts r c else sum_of ts r c

-- a place's weight: the magnitude of the sum of its values
abbrev pub weight_of : Entries → ℕ → ℕ → ℕ
weight_of t r c = unsigned_abs (sum_of t.items r c)

-- the places whose sum is not 0
abbrev pub nonzero_places : Entries → List Place
nonzero_places t = filter (λ p. nat_lt 0 (weight_of t p.0 p.1)) (places t)

-- the greatest weight
abbrev pub weight_limit : ℕ
weight_limit = max_value

-- each of the first `count` sums is within it
abbrev pub AreWithin : ℕ → List ℤ → Type 0
AreWithin count sums =
    (i : ℕ) → i < count → unsigned_abs (slice_index_or sums i (pos 0)) ≤ weight_limit

-- the matrix, and its entries' weights, column by column, each column's in the order of its rows
pub record Weighing : Type 0 where
  pub matrix : Matrix
  pub weights : List ℕ

-- how many entries stand in the columns before one
abbrev pub start_of : Matrix → ℕ → ℕ
start_of a c = sum_by length (take c a.columns)

-- the weights of a column's entries, in the order of its rows
abbrev pub weights_in : Weighing → ℕ → List ℕ
weights_in w c = slice_range w.weights (start_of w.matrix c) (start_of w.matrix (c + 1))

-- how many numbers stand before one on a list
abbrev pub place_in : ℕ → List ℕ → ℕ
place_in x [] = zero
place_in x (y ∷ ys) = if nat_eq x y then zero else suc (place_in x ys)

-- an entry's weight
abbrev pub weight_at : Weighing → ℕ → ℕ → ℕ
weight_at w r c = slice_index (weights_in w c) (place_in r (column w.matrix c))

-- where an entry stands, in the order of all columns
abbrev pub position : Matrix → ℕ → ℕ → ℕ
position a r c = start_of a c + place_in r (column a c)

-- the sums of the values of these triples, where the entries stand
pub record AreSums (ts : List Triple) (a : Matrix) (sums : List ℤ) : Type 0 where
  pub long : length sums ≡ entry_count a
  pub each : (r c : ℕ) → IsEntry a r c
      → slice_index_or sums (position a r c) (pos 0) ≡ sum_of ts r c

-- the weights are those of the file's entries, and each is within the limit
pub record AreWeightsOf (t : Entries) (a : Matrix) (w : Weighing) : Type 0 where
  pub matrix_is : w.matrix ≡ a
  pub weights_are : (r c : ℕ) → IsEntry a r c → weight_at w r c ≡ weight_of t r c
  pub within : (r c : ℕ) → IsEntry a r c → weight_of t r c ≤ weight_limit

-- the weight of this entry passes the limit; of the entries that do it has the least column, and
-- in it the least row
pub record IsFirstPast (t : Entries) (a : Matrix) (r c : ℕ) : Type 0 where
  pub entry : IsEntry a r c
  pub past : weight_limit < weight_of t r c
  pub first : (s d : ℕ) → IsEntry a s d → weight_limit < weight_of t s d
      → (c < d) ⊎ ((c ≡ d) × (r ≤ s))
