-- Forests that can come about.
use Rattle.std.specs.Prelude.{◌⊎◌, ℕ, List, [], ◌∷◌, ◌++◌}
use Rattle.bip_defs.specs.Lists.{Among, AreDistinct}
use Rattle.bip_defs.specs.Matching.{IsMatching, cols_of, rows_of}
use Rattle.bip_defs.specs.Matrix.{IsEntry, Matrix, Place}
use Rattle.bip_defs.specs.Forest.{IsRootOfRow, State, roots_of}

-- each claim, after those of the rows before it, is of a row that was not claimed, at an entry
-- whose column is unmatched in the base or has its base row claimed before
abbrev pub AreClaims : Matrix → List Place → List ℕ → List Place → Type 0
AreClaims a base before [] = Unit {0}
AreClaims a base before (p ∷ claims) = (¬ Among p.0 before) × IsEntry a p.0 p.1
    × ((¬ Among p.1 (cols_of base)) ⊎ ((r : ℕ) × Among (r, p.1) base × Among r before))
    × AreClaims a base (before ++ p.0 ∷ []) claims

-- the leaf is a claimed row of the root's tree; neither the root nor the leaf has a base mate
pub record IsLeaf (s : State) (x r : ℕ) : Type 0 where
  pub root_unmatched : ¬ Among x (cols_of s.base)
  pub leaf_unmatched : ¬ Among r (rows_of s.base)
  pub in_tree : IsRootOfRow s.base s.claims x r

pub record IsSound (s : State) : Type 0 where
  pub base : IsMatching s.matrix s.base
  pub claims : AreClaims s.matrix s.base [] s.claims
  pub roots_differ : AreDistinct (roots_of s.leaves)
  pub leaves : (x r : ℕ) → Among (x, r) s.leaves → IsLeaf s x r
  pub flipped_differ : AreDistinct s.flipped
  pub flipped : (x : ℕ) → Among x s.flipped → Among x (roots_of s.leaves)
