-- A forest of alternating trees, and what is in it.
use Rattle.std.specs.Prelude.{◌≡◌, ◌⊎◌, ℕ, ◌<◌, List, [], ◌++◌, map}
use Rattle.bip_defs.specs.Lists.{Among}
use Rattle.bip_defs.specs.Matching.{cols_of, rows_of}
use Rattle.bip_defs.specs.Matrix.{IsEntry, Matrix, Place, cols}

-- the matrix, the base matching, the claims in order, the leaves in order (each with its root
-- before it), and the roots whose paths were exchanged
pub record State : Type 0 where
  pub matrix : Matrix
  pub base : List Place
  pub claims : List Place
  pub leaves : List (ℕ × ℕ)
  pub flipped : List ℕ

-- no claims, no leaves and no flipped roots
abbrev pub new_forest : Matrix → List Place → State
new_forest a m = record { matrix = a; base = m; claims = []; leaves = []; flipped = [] }

-- the forest with more claims and more leaves
abbrev pub grown_by : State → List Place → List (ℕ × ℕ) → State
grown_by s claims wins = record s { claims = s.claims ++ claims; leaves = s.leaves ++ wins }

abbrev pub roots_of : List (ℕ × ℕ) → List ℕ
roots_of leaves = map (λ (p : ℕ × ℕ). p.0) leaves

-- a column of the forest: unmatched in the base, or its base row is claimed
abbrev pub InForest : State → ℕ → Type 0
InForest s c = (c < cols s.matrix) × ((¬ Among c (cols_of s.base))
    ⊎ ((r : ℕ) × Among (r, c) s.base × Among r (rows_of s.claims)))

-- the root of a column that is unmatched in the base is the column; of any other it is the root of
-- the column that claimed its base row
pub data RootOf (base claims : List Place) (x : ℕ) : ℕ → Type 0 where
  itself : (¬ Among x (cols_of base)) → RootOf base claims x x
  above : {c d : ℕ} (r : ℕ) → Among (r, c) base → Among (r, d) claims → RootOf base claims x d
      → RootOf base claims x c

-- the root of a claimed row is that of the column that claimed it
abbrev pub IsRootOfRow : List Place → List Place → ℕ → ℕ → Type 0
IsRootOfRow base claims x r = (d : ℕ) × Among (r, d) claims × RootOf base claims x d

-- the row's root has a leaf
abbrev pub IsWon : State → ℕ → Type 0
IsWon s r = (x : ℕ) × IsRootOfRow s.base s.claims x r × Among x (roots_of s.leaves)

-- the column's root has a leaf
abbrev pub HasWon : State → ℕ → Type 0
HasWon s c = (x : ℕ) × RootOf s.base s.claims x c × Among x (roots_of s.leaves)

-- every row in which the column has an entry is claimed
abbrev pub IsUsedUp : State → ℕ → Type 0
IsUsedUp s c = (r : ℕ) → IsEntry s.matrix r c → Among r (rows_of s.claims)

-- every claimed row that is unmatched in the base has a root with a leaf
abbrev pub IsSettled : State → Type 0
IsSettled s = (r : ℕ) → Among r (rows_of s.claims) → ¬ Among r (rows_of s.base) → IsWon s r

-- settled, with no leaves and no flipped roots
pub record IsRested (s : State) : Type 0 where
  pub settled : IsSettled s
  pub no_leaves : s.leaves ≡ []
  pub none_flipped : s.flipped ≡ []
