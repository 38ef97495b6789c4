-- Maximum matchings that agree on the first columns.
use Rattle.std.specs.Prelude.{◌≡◌, ◌⊎◌, ◌↔◌, ℕ, ◌<◌, List}
use Rattle.bip_defs.specs.LeastMatching.{mate_or}
use Rattle.bip_defs.specs.Lists.{Among}
use Rattle.bip_defs.specs.Matching.{IsMaximum}
use Rattle.bip_defs.specs.Matrix.{Matrix, Place}

-- the same pairs at the columns below j
abbrev pub AgreeBelow : ℕ → List Place → List Place → Type 0
AgreeBelow j m n = (r c : ℕ) → c < j → Among (r, c) m ↔ Among (r, c) n

-- n is a maximum matching that agrees with m at the columns below j
pub record Extends (a : Matrix) (m : List Place) (j : ℕ) (n : List Place) : Type 0 where
  pub maximum : IsMaximum a n
  pub agrees : AgreeBelow j m n

-- none of them has the row at column j
abbrev pub Excludes : Matrix → List Place → ℕ → ℕ → Type 0
Excludes a m j r = (n : List Place) → Extends a m j n → ¬ Among (r, j) n

-- one of them, with the row at column j
pub record HasAt (a : Matrix) (m : List Place) (j r : ℕ) (n : List Place) : Type 0 where
  pub extends : Extends a m j n
  pub at : Among (r, j) n

-- m and n differ first at column i, where m has the lesser row
abbrev pub ComesBefore : ℕ → List Place → List Place → ℕ → Type 0
ComesBefore none m n i = (mate_or none m i < mate_or none n i)
    × ((x : ℕ) → x < i → mate_or none m x ≡ mate_or none n x)

-- a maximum matching that comes before each other one from which it differs below column j
pub record IsLeastBelow (a : Matrix) (j : ℕ) (m : List Place) : Type 0 where
  pub maximum : IsMaximum a m
  pub least : (n : List Place) → IsMaximum a n
      → AgreeBelow j m n ⊎ ((i : ℕ) × (i < j) × ComesBefore a.rows m n i)
