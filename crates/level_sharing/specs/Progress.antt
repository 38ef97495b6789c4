-- What one worker does in a level, and what it knows. All of it speaks of the forest as it was
-- before the level, and of this worker's lists alone.
use Rattle.std.specs.Prelude.{◌≡◌, ◌⊎◌, ℕ, ◌<◌, Bool, true, false, List}
use Rattle.bip_defs.specs.Forest.{InForest, RootOf, State}
use Rattle.bip_defs.specs.Lists.{Among}
use Rattle.bip_defs.specs.Matching.{rows_of}
use Rattle.bip_defs.specs.Matrix.{IsEntry, Place}
use Rattle.claim_words.specs.Board.{Board}
use Rattle.claim_words.specs.Listed.{Listed}
use Rattle.claim_words.specs.Seat.{KnowsRoot, KnowsRow}
use Rattle.claim_words.specs.WorkerState.{WorkerState, with_more}
use Rattle.level_sharing.specs.Shares.{IsOwn, Share}

-- the row has no base mate, and the worker has claimed it for a column of this root's tree
abbrev pub IsLeafFor : State → WorkerState → ℕ → ℕ → Type 0
IsLeafFor s w x r = (¬ Among r (rows_of s.base))
    × ((c : ℕ) × Among (r, c) w.fresh_claims × RootOf s.base s.claims x c)

-- From one state of a worker to a later one: what it has listed since. Each claim is of the
-- worker's own share and legal in the forest, and each win is of such a leaf
pub record Progress (s : State) (own : Share) (v w : WorkerState) : Type 0 where
  pub more : Listed
  pub grown : w ≡ with_more v more
  pub own_claims : (p : Place) → Among p more.claims → IsOwn own p
  pub entries : (r c : ℕ) → Among (r, c) more.claims → IsEntry s.matrix r c × InForest s c
  pub leaves : (x r : ℕ) → Among (x, r) more.wins → IsLeafFor s w x r

-- progress from an earlier state to the one is progress from it to the other too
abbrev pub GoesOn : State → Share → WorkerState → WorkerState → Type 0
GoesOn s own v w = (u : WorkerState) → Progress s own u v → Progress s own u w

-- a claim of the worker's own share that is legal in the forest
pub record IsOwnClaim (s : State) (own : Share) (r c : ℕ) : Type 0 where
  pub is_own : IsOwn own (r, c)
  pub entry : IsEntry s.matrix r c
  pub inside : InForest s c

-- a step of any worker, whatever its share, is progress
abbrev pub IsProgress : (WorkerState → WorkerState) → Type 0
IsProgress after = (s : State) (own : Share) (w : WorkerState) → Progress s own w (after w)

-- the worker knows of a column that holds the row, or of a leaf of the root
abbrev pub KnowsHolder : WorkerState → ℕ → Type 0
KnowsHolder w r = (c : ℕ) × KnowsRow w.seat r c

abbrev pub KnowsLeaf : WorkerState → ℕ → Type 0
KnowsLeaf w x = (r : ℕ) × KnowsRoot w.seat x r

-- it knows that the column's root has a leaf
abbrev pub KnowsWon : State → WorkerState → ℕ → Type 0
KnowsWon s w c = (x : ℕ) × RootOf s.base s.claims x c × KnowsLeaf w x

-- what it has claimed without a base mate is in trees of whose root it knows a leaf
abbrev pub HasSettled : State → WorkerState → Type 0
HasSettled s w = (r c : ℕ) → Among (r, c) w.fresh_claims → ¬ Among r (rows_of s.base)
    → KnowsWon s w c

-- a worker of so many that is at the start of a level: it has a seat of this board and a number,
-- and nothing left to settle
pub record IsAtStart (s : State) (b : Board) (workers number : ℕ) (w : WorkerState) : Type 0 where
  pub few : number < workers
  pub seat : w.seat.board ≡ b
  pub settled : HasSettled s w

-- of a column it knows that its root has a leaf, or that all its rows are held
abbrev pub IsThroughColumn : State → WorkerState → ℕ → Type 0
IsThroughColumn s w c = KnowsWon s w c ⊎ ((r : ℕ) → IsEntry s.matrix r c → KnowsHolder w r)

-- it is through with all these columns
pub record IsThroughColumns (s : State) (share : List ℕ) (w : WorkerState) : Type 0 where
  pub settled : HasSettled s w
  pub columns : (c : ℕ) → Among c share → IsThroughColumn s w c

-- of a row it knows that it is held, or that the root of each column of the forest with an entry in
-- it has a leaf
abbrev pub IsThroughRow : State → WorkerState → ℕ → Type 0
IsThroughRow s w r = KnowsHolder w r
    ⊎ ((c : ℕ) → IsEntry s.matrix r c → InForest s c → KnowsWon s w c)

-- it is through with all these rows
pub record IsThroughRows (s : State) (share : List ℕ) (w : WorkerState) : Type 0 where
  pub settled : HasSettled s w
  pub rows : (r : ℕ) → Among r share → IsThroughRow s w r

-- a worker may claim this row for this column, whose root this is; and whether the row has no base
-- mate
pub record CanClaim (s : State) (own : Share) (row col root : ℕ) (free : Bool) : Type 0 where
  pub is_own : IsOwn own (row, col)
  pub entry : IsEntry s.matrix row col
  pub inside : InForest s col
  pub rooted : RootOf s.base s.claims root col
  pub mated : free ≡ false → Among row (rows_of s.base)
  pub is_free : free ≡ true → ¬ Among row (rows_of s.base)
