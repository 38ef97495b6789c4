-- Matrices with entries all along the diagonal.
use Rattle.std.specs.Prelude.{ℕ, ◌<◌, List}
use Rattle.bip_defs.specs.Lists.{Among}
use Rattle.bip_defs.specs.Matrix.{IsEntry, Matrix, Place, cols}

-- each place of the diagonal is an entry
abbrev pub IsDiagonalFull : Matrix → Type 0
IsDiagonalFull a = (i : ℕ) → i < a.rows → i < cols a → IsEntry a i i

-- the pairs are those of the diagonal as far as there are such places
abbrev pub HasDiagonal : Matrix → List Place → Type 0
HasDiagonal a m = (i : ℕ) → i < a.rows → i < cols a → Among (i, i) m

-- a full diagonal is matched
abbrev pub KeepsDiagonal : Matrix → List Place → Type 0
KeepsDiagonal a m = IsDiagonalFull a → HasDiagonal a m
