-- Lists of marks that stand for sets.
use Rattle.std.specs.Prelude.{◌≡◌, ◌↔◌, ℕ, ◌<◌, Bool, List, length}
use Rattle.bip_defs.specs.Lists.{Among, IsMarked}
use Rattle.bip_defs.specs.Matrix.{IsEntry, Matrix, Place}

-- of each number below n, whether it has P
pub record Marks (n : ℕ) (P : ℕ → Type 0) (marks : List Bool) : Type 0 where
  pub long : length marks ≡ n
  pub exact : (i : ℕ) → i < n → IsMarked marks i ↔ P i

-- each entry of the column is in a marked row
abbrev pub IsExplored : Matrix → List Bool → ℕ → Type 0
IsExplored a marks c = (r : ℕ) → IsEntry a r c → IsMarked marks r

-- no augmenting path leads through a marked row: each has a mate, all of whose entries are in marked rows
abbrev pub AreClosed : Matrix → List Place → List Bool → Type 0
AreClosed a m marks = (r : ℕ) → IsMarked marks r → (d : ℕ) × Among (r, d) m × IsExplored a marks d
