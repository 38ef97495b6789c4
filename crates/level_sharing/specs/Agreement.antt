-- When a board of words and its workers agree with the claims and the leaves of a forest.
use Rattle.std.specs.Prelude.{◌≡◌, ◌↔◌, ◌⊎◌, ℕ, List, [], ◌++◌, Option, Some, length}
use Rattle.bip_defs.specs.Forest.{State}
use Rattle.bip_defs.specs.Lists.{Among, AreNew}
use Rattle.bip_defs.specs.Matrix.{cols}
use Rattle.bip_defs.specs.WordValues.{held}
use Rattle.claim_words.specs.Board.{Board, Words}
use Rattle.claim_words.specs.Settles.{SettlesAll}
use Rattle.claim_words.specs.WorkerState.{AreAllWorkers, WorkerState, fresh_claims_of, fresh_wins_of, listed_by_workers, seats_of}

-- A word was opened with a value, or the value is listed for it, exactly where the list of pairs
-- has the word's number with that value
abbrev pub AreListedWords : List (ℕ × ℕ) → List (Option ℕ) → List (ℕ × ℕ) → Type 0
AreListedWords pairs opened listed = (i x : ℕ)
    → ((held opened i ≡ Some x) ⊎ Among (i, x) listed) ↔ Among (i, x) pairs

-- The workers' seats are all seats of the board, in the order of their numbers, and the words with
-- which the board was opened and those that the seats list are these claims, each a row with its
-- column, and these leaves, each a root with its leaf
pub record ListThese (b : Board) (ws : List WorkerState) (claims leaves : List (ℕ × ℕ)) : Type 0 where
  pub all_workers : AreAllWorkers b ws
  pub rows : AreListedWords claims b.rows (listed_by_workers ws).claims
  pub roots : AreListedWords leaves b.roots (listed_by_workers ws).wins

-- board and workers list the claims and the leaves of a forest, and the fresh lists are empty
pub record Agree (b : Board) (ws : List WorkerState) (claims leaves : List (ℕ × ℕ)) : Type 0 where
  pub listed : ListThese b ws claims leaves
  pub no_claims : fresh_claims_of ws ≡ []
  pub no_wins : fresh_wins_of ws ≡ []

-- a word holds a value exactly where the list has the word's number with that value
abbrev pub HoldThese : List (ℕ × ℕ) → List (Option ℕ) → Type 0
HoldThese pairs words = (i x : ℕ) → (held words i ≡ Some x) ↔ Among (i, x) pairs

-- What is known besides once the seats were gathered: the lists of all seats account for the words,
-- and the words hold these claims and these leaves
pub record Shows (b : Board) (ws : List WorkerState) (claims leaves : List (ℕ × ℕ)) : Type 0 where
  pub all_workers : AreAllWorkers b ws
  pub words : Words
  pub listed : SettlesAll b words (seats_of ws)
  pub rows : HoldThese claims words.rows
  pub roots : HoldThese leaves words.roots

-- What the workers list since they were settled is new: claims of rows that were unclaimed, each
-- once, and wins of roots without a leaf, each once. The words hold these claims and these leaves
-- with what was listed, and nothing else
pub record HaveFresh (words : Words) (ws : List WorkerState) (claims leaves : List (ℕ × ℕ)) : Type 0 where
  pub new_claims : AreNew claims (fresh_claims_of ws)
  pub new_wins : AreNew leaves (fresh_wins_of ws)
  pub rows : HoldThese (claims ++ fresh_claims_of ws) words.rows
  pub roots : HoldThese (leaves ++ fresh_wins_of ws) words.roots

-- the board has a word for each row of the forest's matrix, and one for each column
pub record IsSized (s : State) (b : Board) : Type 0 where
  pub rows : length b.rows ≡ s.matrix.rows
  pub roots : length b.roots ≡ cols s.matrix
