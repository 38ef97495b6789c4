-- The least maximum matching: of all maximum matchings the one whose code over the columns is lexicographically least.
use Rattle.std.specs.Prelude.{◌≡◌, ◌⊎◌, ℕ, ◌<◌, List, [], ◌∷◌, map, nat_eq, if◌then◌else◌}
use Rattle.bip_defs.specs.Matching.{IsMaximum}
use Rattle.bip_defs.specs.Matrix.{Matrix, Place, cols, upto}

-- the row of the column's pair, or what stands for none
abbrev pub mate_or : ℕ → List Place → ℕ → ℕ
mate_or none [] c = none
mate_or none (p ∷ m) c = if nat_eq p.1 c then p.0 else mate_or none m c

-- for each column, rising, its mate; a column without one has the number of rows, which is above every row
abbrev pub code : Matrix → List Place → List ℕ
code a m = map (mate_or a.rows m) (upto (cols a))

-- in lexicographic order xs is ys or comes before it: at the first place where they differ it has the smaller number
abbrev pub IsNotAfter : List ℕ → List ℕ → Type 0
IsNotAfter [] ys = Unit {0}
IsNotAfter (x ∷ xs) [] = ⊥
IsNotAfter (x ∷ xs) (y ∷ ys) = (x < y) ⊎ ((x ≡ y) × IsNotAfter xs ys)

-- a maximum matching whose code comes before that of every other one
pub record IsLeastMaximum (a : Matrix) (m : List Place) : Type 0 where
  pub maximum : IsMaximum a m
  pub least : (n : List Place) → IsMaximum a n → IsNotAfter (code a m) (code a n)
