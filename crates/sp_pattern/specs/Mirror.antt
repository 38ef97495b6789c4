-- Places with their mirror images, and a symmetric matrix from its entries on and below the
-- diagonal.
use Rattle.std.specs.Prelude.{◌≡◌, ◌⊎◌, ℕ, ◌+◌, ◌<◌, ◌≤◌, List, ◌++◌, length, map, filter, nat_lt, if◌then◌else◌, slice_index_or}
use Rattle.bip_defs.specs.Lists.{Among}
use Rattle.bip_defs.specs.Matrix.{IsEntry, Matrix, Place}
use Rattle.bip_defs.specs.Pieces.{AreStarts, piece}

abbrev pub place_at : List Place → ℕ → Place
place_at ps k = slice_index_or ps k (0, 0)

abbrev pub mirror : Place → Place
mirror p = (p.1, p.0)

-- the place, or its mirror image, whichever is not above the diagonal
abbrev pub lower : Place → Place
lower p = if nat_lt p.0 p.1 then (p.1, p.0) else p

abbrev pub lowered : List Place → List Place
lowered ps = map lower ps

-- the mirror image of each place is one of them too
abbrev pub AreSymmetric : List Place → Type 0
AreSymmetric ps = (r c : ℕ) → Among (r, c) ps → Among (c, r) ps

-- the place at k is on the diagonal, and `next` is behind it, or behind its mirror image, which
-- stands behind it
abbrev pub IsBehindMirror : List Place → ℕ → ℕ → Type 0
IsBehindMirror ps k next =
    ((next ≡ k + 1) × ((place_at ps k).0 ≡ (place_at ps k).1))
    ⊎ ((next ≡ k + 2) × (next ≤ length ps) × (place_at ps (k + 1) ≡ mirror (place_at ps k)))

-- no entry is above the diagonal
abbrev pub IsLower : Matrix → Type 0
IsLower a = (r c : ℕ) → IsEntry a r c → c ≤ r

-- of a column and a row of the same number: what stands above the diagonal in the row, and then the
-- column
abbrev pub both_sides : List ℕ → List ℕ → List ℕ → List ℕ → ℕ → List ℕ
both_sides col_starts col_rows row_starts row_cols i =
    filter (λ j. nat_lt j i) (piece row_starts row_cols i) ++ piece col_starts col_rows i

-- the flat list is cut into m parts, and these are they
pub record HasPieces (m : ℕ) (pieces : ℕ → List ℕ) (starts flat : List ℕ) : Type 0 where
  pub long : length starts ≡ m + 1
  pub cut : AreStarts starts flat
  pub parts : (i : ℕ) → i < m → piece starts flat i ≡ pieces i
