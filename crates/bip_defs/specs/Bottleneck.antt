-- Perfect matchings by their least weight, and what shows that none has a greater one.
use Rattle.std.specs.Prelude.{◌≡◌, ℕ, ◌<◌, ◌≤◌, Bool, List, [], ◌∷◌, filter, length, map, nat_lt}
use Rattle.bip_defs.specs.Lists.{Among, IsRising, Lists}
use Rattle.bip_defs.specs.Matching.{IsMatching, IsRank, cols_of, rows_of}
use Rattle.bip_defs.specs.Matrix.{Matrix, Place, cols, column, neighbours, upto}
use Rattle.bip_defs.specs.Parts.{IsHorizontalCol}

-- a matching of entries that misses no row and no column
pub record IsFull (a : Matrix) (m : List Place) : Type 0 where
  pub matching : IsMatching a m
  pub all_rows : (r : ℕ) → r < a.rows → Among r (rows_of m)
  pub all_cols : (c : ℕ) → c < cols a → Among c (cols_of m)

-- as many rows as columns, and a rank that is less, with the columns that some maximum matching misses
pub record IsSingular (a : Matrix) (rank : ℕ) (hall : List ℕ) : Type 0 where
  pub square : a.rows ≡ cols a
  pub is_rank : IsRank a rank
  pub below : rank < cols a
  pub horizontal : Lists (IsHorizontalCol a) hall

-- the matrix with the entries alone that pass a test of their row and column
abbrev pub restricted : Matrix → (ℕ → ℕ → Bool) → Matrix
restricted a passes = record {
  rows = a.rows;
  columns = map (λ c. filter (λ r. passes r c) (column a c)) (upto (cols a));
}

-- the matrix with the entries alone whose weight is greater than `least`
abbrev pub above : Matrix → (ℕ → ℕ → ℕ) → ℕ → Matrix
above a weight least = restricted a (λ r c. nat_lt least (weight r c))

-- no pair's weight is less, and one has it; 0 of no pairs
abbrev pub IsLeastWeight : (ℕ → ℕ → ℕ) → List Place → ℕ → Type 0
IsLeastWeight weight [] least = least ≡ 0
IsLeastWeight weight (p ∷ m) least =
    ((r : ℕ) × (c : ℕ) × Among (r, c) (p ∷ m) × (weight r c ≡ least))
    × ((r c : ℕ) → Among (r, c) (p ∷ m) → least ≤ weight r c)

-- a full matching in order of its columns, its least weight, and the columns that maximum matchings of the matrix above
-- that weight miss: they are more than their neighbours there
pub record IsBest (a : Matrix) (weight : ℕ → ℕ → ℕ) (pairs : List Place) (least : ℕ)
    (hall : List ℕ) : Type 0 where
  pub square : a.rows ≡ cols a
  pub full : IsFull a pairs
  pub rising : IsRising (cols_of pairs)
  pub least_is : IsLeastWeight weight pairs least
  pub horizontal : Lists (IsHorizontalCol (above a weight least)) hall
  pub fewer : 0 < cols a → length (neighbours (above a weight least) hall) < length hall
