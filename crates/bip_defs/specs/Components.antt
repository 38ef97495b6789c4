-- Numbers that tell the strong components of the square part's columns.
use Rattle.std.specs.Prelude.{◌≡◌, ℕ, ◌≤◌, List}
use Rattle.bip_defs.specs.Blocks.{Block}
use Rattle.bip_defs.specs.Lists.{Among, Lists}
use Rattle.bip_defs.specs.Matrix.{IsEntry, Matrix, Place}
use Rattle.bip_defs.specs.Parts.{IsSquareCol}
use Rattle.bip_defs.specs.Walks.{Walk}

-- for the pairs m of the square part: columns of one number lead to one another, and no entry leads to a greater number
pub record AreComponents (a : Matrix) (m : List Place) (number : ℕ → ℕ) : Type 0 where
  pub joined : (c d : ℕ) → IsSquareCol a c → IsSquareCol a d → number c ≡ number d → Walk a m c d
  pub falling : (r c d : ℕ) → IsSquareCol a c → IsEntry a r c → Among (r, d) m → number d ≤ number c

-- the square columns of one number, and their mates
pub record IsComponent (a : Matrix) (m : List Place) (number : ℕ → ℕ) (k : ℕ)
    (b : Block) : Type 0 where
  pub rows : Lists (λ r. (c : ℕ) × Among (r, c) m × (number c ≡ k)) b.rows
  pub cols : Lists (λ c. IsSquareCol a c × (number c ≡ k)) b.cols
