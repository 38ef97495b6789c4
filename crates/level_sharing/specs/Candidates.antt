-- Rows that a worker may claim, gathered before any of them is claimed.
use Rattle.std.specs.Prelude.{◌≡◌, ◌⊎◌, ℕ, ◌<◌, List, length}
use Rattle.bip_defs.specs.Forest.{InForest, RootOf, State}
use Rattle.bip_defs.specs.Lists.{Among}
use Rattle.bip_defs.specs.Matrix.{cols}
use Rattle.claim_words.specs.Board.{Board}
use Rattle.claim_words.specs.WorkerState.{WorkerState}
use Rattle.level_sharing.specs.Agreement.{IsSized}
use Rattle.level_sharing.specs.Progress.{CanClaim, GoesOn, HasSettled, IsThroughRow, KnowsHolder, KnowsLeaf, KnowsWon, Progress}
use Rattle.level_sharing.specs.Shares.{Share}
use Rattle.level_sharing.specs.declared.candidate.Candidate.{Candidate}

-- a worker may claim it
abbrev pub CanTake : State → Share → Candidate → Type 0
CanTake s own x = CanClaim s own x.row x.col x.root x.free

-- the board has its words
abbrev pub IsOnBoard : Board → Candidate → Type 0
IsOnBoard b x = (x.row < length b.rows) × (x.root < length b.roots)

-- a worker may claim each of these
abbrev pub AreCandidates : State → Share → List Candidate → Type 0
AreCandidates s own xs = (x : Candidate) → Among x xs → CanTake s own x

-- the board has their words
abbrev pub AreOnBoard : Board → List Candidate → Type 0
AreOnBoard b xs = (x : Candidate) → Among x xs → IsOnBoard b x

-- the worker knows a holder of the row, or a leaf of the root
abbrev pub IsDecided : WorkerState → ℕ → ℕ → Type 0
IsDecided w row root = KnowsHolder w row ⊎ KnowsLeaf w root

-- or the row is a candidate for the root
abbrev pub IsCovered : WorkerState → List Candidate → ℕ → ℕ → Type 0
IsCovered w xs row root = IsDecided w row root
    ⊎ ((x : Candidate) × Among x xs × (x.row ≡ row) × (x.root ≡ root))

-- from one state of a worker to a later one: what it knew it knows still, and it is through with the
-- rows that it was through with
pub record Remembers (s : State) (v w : WorkerState) : Type 0 where
  pub holder : (r : ℕ) → KnowsHolder v r → KnowsHolder w r
  pub leaf : (x : ℕ) → KnowsLeaf v x → KnowsLeaf w x
  pub won : (c : ℕ) → KnowsWon s v c → KnowsWon s w c
  pub through_row : (r : ℕ) → IsThroughRow s v r → IsThroughRow s w r
  pub decided : (r x : ℕ) → IsDecided v r x → IsDecided w r x
  pub covered : (xs : List Candidate) (r x : ℕ) → IsCovered v xs r x → IsCovered w xs r x

-- the worker has made progress since a state, and since each earlier one from which there was
-- progress to it, and it remembers what it knew
pub record HasAdvanced (s : State) (own : Share) (v w : WorkerState) : Type 0 where
  pub progress : Progress s own v w
  pub goes_on : GoesOn s own v w
  pub remembers : Remembers s v w

-- what a worker's search goes over: a board for the forest, and columns or rows that are each so
pub record IsSearch (s : State) (b : Board) (IsSo : ℕ → Type 0) (share : List ℕ) : Type 0 where
  pub sized : IsSized s b
  pub each : (i : ℕ) → Among i share → IsSo i

-- a worker with a seat of the board, which has settled what it has claimed, and candidates that are
-- each so
pub record HasGathered (s : State) (b : Board) (IsSo : Candidate → Type 0) (w : WorkerState)
    (xs : List Candidate) : Type 0 where
  pub seat : w.seat.board ≡ b
  pub settled : HasSettled s w
  pub each : (x : Candidate) → Among x xs → IsSo x

-- the column is in the forest, and this is the root of its tree, which is in range
pub record IsRootFor (s : State) (col root : ℕ) : Type 0 where
  pub inside : InForest s col
  pub rooted : RootOf s.base s.claims root col
  pub in_range : root < cols s.matrix
