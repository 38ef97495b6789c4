-- Rows that a worker may claim, gathered before any of them is claimed.
use Rattle.std.specs.Prelude.{◌≡◌, ◌⊎◌, ℕ, ◌<◌, true, false, List}
use Rattle.bip_defs.specs.Forest.{InForest, RootOf, State}
use Rattle.bip_defs.specs.Lists.{Among}
use Rattle.bip_defs.specs.Matching.{rows_of}
use Rattle.bip_defs.specs.Matrix.{IsEntry, cols}
use Rattle.claim_words.specs.Board.{Board}
use Rattle.claim_words.specs.WorkerState.{WorkerState}
use Rattle.level_sharing.specs.Candidates.{HasGathered}
use Rattle.level_sharing.specs.Progress.{GoesOn, IsThroughRow, KnowsWon}
use Rattle.level_sharing.specs.Shares.{of_rows}
use Rattle.level_sharing.specs.declared.candidate.Candidate.{Candidate}

-- a row, and a column of the forest that may claim it
pub record IsCandidate (s : State) (x : Candidate) : Type 0 where
  pub entry : IsEntry s.matrix x.row x.col
  pub inside : InForest s x.col
  pub rooted : RootOf s.base s.claims x.root x.col
  pub in_range : x.root < cols s.matrix
  pub mated : x.free ≡ false → Among x.row (rows_of s.base)
  pub is_free : x.free ≡ true → ¬ Among x.row (rows_of s.base)

-- such a row is one of these
abbrev pub FitsRows : State → List ℕ → Candidate → Type 0
FitsRows s rows x = Among x.row rows × IsCandidate s x

-- a worker with a seat of the board, which has settled what it has claimed, and candidates of these
-- rows
abbrev pub HasGatheredRows : State → Board → List ℕ → WorkerState → List Candidate → Type 0
HasGatheredRows s b rows w xs = HasGathered s b (FitsRows s rows) w xs

-- the worker has made progress by these rows, since whatever state
abbrev pub Advances : State → List ℕ → WorkerState → WorkerState → Type 0
Advances s rows v w = GoesOn s (of_rows rows) v w

-- it has a seat of the same board, and knows still what it knew to be won and what it was through
-- with
pub record StaysThrough (s : State) (v w : WorkerState) : Type 0 where
  pub seat : w.seat.board ≡ v.seat.board
  pub won : (c : ℕ) → KnowsWon s v c → KnowsWon s w c
  pub rows : (r : ℕ) → IsThroughRow s v r → IsThroughRow s w r

-- the worker is through with the row, or has gathered it
abbrev pub IsCoveredRow : State → WorkerState → List Candidate → ℕ → Type 0
IsCoveredRow s w xs row = IsThroughRow s w row ⊎ ((x : Candidate) × Among x xs × (x.row ≡ row))

-- what was covered is so still
abbrev pub RowsStayCovered : State → WorkerState → List Candidate → WorkerState → List Candidate
    → Type 0
RowsStayCovered s v xs w ys = (row : ℕ) → IsCoveredRow s v xs row → IsCoveredRow s w ys row
