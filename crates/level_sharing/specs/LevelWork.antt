-- The work of a level: what it stands on, and what it leaves.
use Rattle.std.specs.Prelude.{◌≡◌, ℕ, List, ◌++◌, length}
use Rattle.bip_defs.specs.Forest.{InForest, IsRootOfRow, IsSettled, State}
use Rattle.bip_defs.specs.Lists.{Among, AreNew}
use Rattle.bip_defs.specs.Matching.{cols_of, rows_of}
use Rattle.bip_defs.specs.Matrix.{IsEntry, Place}
use Rattle.claim_words.specs.Board.{Board}
use Rattle.claim_words.specs.WorkerState.{WorkerState, fresh_claims_of, fresh_wins_of}
use Rattle.level_sharing.specs.Agreement.{Agree}
use Rattle.level_sharing.specs.Growth.{AreAttached, AreSearched, ShowsGrown, grown}
use Rattle.level_sharing.specs.Progress.{GoesOn, HasSettled, IsAtStart, IsThroughColumns, IsThroughRows}
use Rattle.level_sharing.specs.Shares.{KeepToShares, Share, share_of}

-- Work of which each worker does a part, by its number. Board and workers agree with a forest, a
-- worker at the start may begin, and what it leaves is progress with its own share
pub record IsLevel (s : State) (own : ℕ → Share) (b : Board) (can_begin : ℕ → WorkerState → Type 0)
    (leaves : ℕ → WorkerState → WorkerState → Type 0) (ws : List WorkerState) : Type 0 where
  pub agree : Agree b ws s.claims s.leaves
  pub begins : (i : ℕ) (w : WorkerState) → IsAtStart s b (length ws) i w → can_begin i w
  pub advances : (i : ℕ) (v w : WorkerState) → leaves i v w → GoesOn s (own i) v w

-- Claims of new rows, at places of the matrix and by columns that are in the forest, and wins of
-- new roots, each with a row of its tree as leaf that has no base mate
pub record AreLegal (s : State) (new_claims : List Place) (new_wins : List (ℕ × ℕ)) : Type 0 where
  pub claims : AreNew s.claims new_claims
  pub places : (r c : ℕ) → Among (r, c) new_claims → IsEntry s.matrix r c × InForest s c
  pub wins : AreNew s.leaves new_wins
  pub leaves : (x r : ℕ) → Among (x, r) new_wins → (¬ Among x (cols_of s.base))
      × (¬ Among r (rows_of s.base)) × IsRootOfRow s.base (s.claims ++ new_claims) x r

-- What a level always leaves: fresh lists that are legal, each of its worker's own share, and board
-- and as many workers as before, which show the forest with these
pub record LeavesLevel (s : State) (own : ℕ → Share) (b : Board)
    (before after : List WorkerState) : Type 0 where
  pub legal : AreLegal s (fresh_claims_of after) (fresh_wins_of after)
  pub words : ShowsGrown b s after
  pub shares : KeepToShares own after
  pub many : length after ≡ length before

-- Each of so many workers was through with its part. If it settled its claims, a settled forest is
-- settled afterwards; if it was through with its share of some columns or rows, the level was
-- through with all of them
pub record GoesThrough (s : State) (completes : ℕ → WorkerState → WorkerState → Type 0)
    (workers : ℕ) (after : List WorkerState) : Type 0 where
  pub settled : ((i : ℕ) (v w : WorkerState) → completes i v w → HasSettled s w)
      → IsSettled s → IsSettled (grown s after)
  pub columns : (cols : List ℕ) → ((i : ℕ) (v w : WorkerState) → completes i v w
      → IsThroughColumns s (share_of cols workers i) w) → AreSearched s after cols
  pub rows : (rows : List ℕ) → ((i : ℕ) (v w : WorkerState) → completes i v w
      → IsThroughRows s (share_of rows workers i) w) → AreAttached s after rows
