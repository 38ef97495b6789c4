-- The search of a phase, level by level.
use Rattle.std.specs.Prelude.{◌≡◌, ◌⊎◌, ℕ, ◌+◌, ◌-◌, ◌≤◌, ◌<◌, ◌^◌, List, [], ◌∷◌, length}
use Rattle.bip_defs.specs.Forest.{HasWon, InForest, IsSettled, IsUsedUp, IsWon, State}
use Rattle.bip_defs.specs.Lists.{Among, AreDistinct}
use Rattle.bip_defs.specs.Matching.{cols_of, rows_of}
use Rattle.bip_defs.specs.Matrix.{IsEntry, Place, cols}
use Rattle.bip_defs.specs.Once.{ListsOnce}
use Rattle.claim_words.specs.Board.{Board}
use Rattle.claim_words.specs.WorkerState.{WorkerState}
use Rattle.level_sharing.specs.Agreement.{Agree, Shows}
use Rattle.level_sharing.specs.Growth.{grown}
use Rattle.sp_ids.specs.Limits.{max_workers}
use Rattle.tree_graft.specs.declared.levels.PhaseSearch.{PhaseSearch}

-- a column of the matrix without a base mate
abbrev pub IsUnmatched : State → ℕ → Type 0
IsUnmatched s c = (c < cols s.matrix) × (¬ Among c (cols_of s.base))

-- a row of the matrix that is not claimed
abbrev pub IsUnclaimed : State → ℕ → Type 0
IsUnclaimed s r = (r < s.matrix.rows) × (¬ Among r (rows_of s.claims))

-- the column has nothing left to claim, or need not claim
abbrev pub IsScanned : State → ℕ → Type 0
IsScanned s c = HasWon s c ⊎ IsUsedUp s c

-- columns of the forest, each once and few enough for 32 bits, and every other column in the forest
-- is scanned
pub record IsFrontier (s : State) (frontier : List ℕ) : Type 0 where
  pub few : length frontier < 2 ^ 32
  pub once : AreDistinct frontier
  pub inside : (c : ℕ) → Among c frontier → InForest s c
  pub others : (c : ℕ) → InForest s c → Among c frontier ⊎ IsScanned s c

-- the base mate of a row that was claimed last and whose root has no leaf
abbrev pub IsMateOf : State → List Place → ℕ → Type 0
IsMateOf s last c = (r : ℕ) × Among r (rows_of last) × Among (r, c) s.base × (¬ IsWon s r)

-- these, each once, and no more than the rows
pub record AreMatesOf (s : State) (last : List Place) (columns : List ℕ) : Type 0 where
  pub few : length columns ≤ length last
  pub mates : ListsOnce (IsMateOf s last) columns

-- the board has a word for each row and each column of a matrix of 32-bit sizes, and there are 64
-- workers at most
pub record IsSized (b : Board) (ws : List WorkerState) (s : State) : Type 0 where
  pub few : length ws ≤ max_workers
  pub small : (s.matrix.rows < 2 ^ 32) × (cols s.matrix < 2 ^ 32)
  pub rows : length b.rows ≡ s.matrix.rows
  pub roots : length b.roots ≡ cols s.matrix

-- board and workers agree with a settled forest
pub record IsReady (b : Board) (ws : List WorkerState) (s : State) : Type 0 where
  pub sized : IsSized b ws s
  pub agree : Agree b ws s.claims s.leaves
  pub settled : IsSettled s

-- and the frontier is that of the next level
pub record IsAtLevel (l : PhaseSearch) (s : State) : Type 0 where
  pub ready : IsReady l.board l.workers.items s
  pub frontier : IsFrontier s l.frontier.items

-- from the forest s on, of the same matrix, a level claimed a row at least for each column of the
-- frontier that it left
pub record IsAtNextLevel (s : State) (l : PhaseSearch) (t : State) : Type 0 where
  pub level : IsAtLevel l t
  pub matrix : t.matrix ≡ s.matrix
  pub more : length s.claims + length l.frontier.items ≤ length t.claims
  pub few : length t.claims ≤ t.matrix.rows

-- the column was scanned before a level, or is after it, or each of its rows is claimed then, but
-- where its root has a leaf
abbrev pub IsGoneThrough : State → State → ℕ → Type 0
IsGoneThrough s t c = IsScanned s c ⊎ (IsScanned t c
    ⊎ ((r : ℕ) → IsEntry s.matrix r c → Among r (rows_of t.claims) ⊎ HasWon t c))

-- the workers list a level that went through all columns in the forest, and the board shows it
pub record IsDone (b : Board) (ws : List WorkerState) (s : State) : Type 0 where
  pub sized : IsSized b ws s
  pub shows : Shows b ws (grown s ws).claims (grown s ws).leaves
  pub settled : IsSettled (grown s ws)
  pub through : (c : ℕ) → InForest s c → IsGoneThrough s (grown s ws) c

-- levels go on at most so long: each but the last claims a row
abbrev pub levels_left : State → List ℕ → ℕ
levels_left s [] = s.matrix.rows - length s.claims
levels_left s (c ∷ cs) = (s.matrix.rows - length s.claims) + 1
