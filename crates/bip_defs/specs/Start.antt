-- The start of Karp and Sipser.
use Rattle.std.specs.Prelude.{◌≡◌, ℕ, ◌≤◌, List, [], ◌∷◌}
use Rattle.bip_defs.specs.Lists.{Among}
use Rattle.bip_defs.specs.Matching.{cols_of, rows_of}
use Rattle.bip_defs.specs.Matrix.{IsEntry, Matrix, Place}

-- an entry whose row and column are unmatched
abbrev pub IsFree : Matrix → List Place → ℕ → ℕ → Type 0
IsFree a m r c = IsEntry a r c × (¬ Among r (rows_of m)) × (¬ Among c (cols_of m))

abbrev pub IsLeast : (ℕ → Type 0) → ℕ → Type 0
IsLeast P x = P x × ((y : ℕ) → P y → x ≤ y)

-- exactly one number has P
abbrev pub IsOnly : (ℕ → Type 0) → ℕ → Type 0
IsOnly P x = P x × ((y : ℕ) → P y → y ≡ x)

-- a column with exactly one unmatched neighbour, and a row
abbrev pub ColOfOne : Matrix → List Place → ℕ → Type 0
ColOfOne a m c = (r : ℕ) × IsOnly (λ s. IsFree a m s c) r

abbrev pub RowOfOne : Matrix → List Place → ℕ → Type 0
RowOfOne a m r = (c : ℕ) × IsOnly (λ d. IsFree a m r d) c

abbrev pub ColOfSome : Matrix → List Place → ℕ → Type 0
ColOfSome a m c = (r : ℕ) × IsFree a m r c

-- the pair that is taken next
pub data IsChoice (a : Matrix) (m : List Place) : Place → Type 0 where
  by_col : (r c : ℕ) → IsLeast (ColOfOne a m) c → IsFree a m r c → IsChoice a m (r, c)
  by_row : (r c : ℕ) → ((d : ℕ) → ¬ ColOfOne a m d) → IsLeast (RowOfOne a m) r → IsFree a m r c
      → IsChoice a m (r, c)
  by_any : (r c : ℕ) → ((d : ℕ) → ¬ ColOfOne a m d) → ((s : ℕ) → ¬ RowOfOne a m s)
      → IsLeast (ColOfSome a m) c → IsLeast (λ s. IsFree a m s c) r → IsChoice a m (r, c)

-- what repeating the choice leaves, until nothing is free
pub data Repeats (a : Matrix) : List Place → List Place → Type 0 where
  over : (m : List Place) → ((r c : ℕ) → ¬ IsFree a m r c) → Repeats a m m
  next : (m n : List Place) (p : Place) → IsChoice a m p → Repeats a (p ∷ m) n → Repeats a m n

-- the pairs are those of the start
abbrev pub IsStart : Matrix → List Place → Type 0
IsStart a pairs = (m : List Place) × Repeats a [] m × ((p : Place) → Among p pairs → Among p m)
    × ((p : Place) → Among p m → Among p pairs)
