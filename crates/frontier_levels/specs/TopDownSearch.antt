-- What a search from the frontier down stands on, and what it has gathered so far.
use Rattle.std.specs.Prelude.{◌⊎◌, ℕ, List}
use Rattle.bip_defs.specs.Forest.{InForest, RootOf, State}
use Rattle.bip_defs.specs.Lists.{Among}
use Rattle.bip_defs.specs.Matrix.{column}
use Rattle.claim_words.specs.Board.{Board}
use Rattle.claim_words.specs.WorkerState.{WorkerState}
use Rattle.frontier_levels.specs.declared.search.TopDownSearch.{TopDownSearch}
use Rattle.level_sharing.specs.Candidates.{CanTake, HasGathered, IsCovered, IsOnBoard, IsSearch}
use Rattle.level_sharing.specs.Progress.{GoesOn, KnowsLeaf}
use Rattle.level_sharing.specs.Shares.{by_columns}
use Rattle.level_sharing.specs.declared.candidate.Candidate.{Candidate}

-- the board has a word for each row and each root, and the columns are in the forest
abbrev pub IsColumnSearch : State → Board → List ℕ → Type 0
IsColumnSearch s b columns = IsSearch s b (InForest s) columns

-- a worker may claim it by one of these columns, and the board has its words
abbrev pub FitsColumns : State → Board → List ℕ → Candidate → Type 0
FitsColumns s b columns x = CanTake s (by_columns columns) x × IsOnBoard b x

-- a worker in this search, and the candidates that it has gathered by columns of its share
abbrev pub HasGatheredIn : TopDownSearch → WorkerState → List Candidate → Type 0
HasGatheredIn t w xs = HasGathered t.forest.now t.board.now
    (FitsColumns t.forest.now t.board.now t.share.now) w xs

-- the worker has made progress by its share's columns, since whatever state
abbrev pub Advances : TopDownSearch → WorkerState → WorkerState → Type 0
Advances t v w = GoesOn t.forest.now (by_columns t.share.now) v w

-- what was covered is so still, and the worker knows the leaves that it knew
pub record StaysCovered (v : WorkerState) (xs : List Candidate) (w : WorkerState)
    (ys : List Candidate) : Type 0 where
  pub leaf : (root : ℕ) → KnowsLeaf v root → KnowsLeaf w root
  pub covered : (row root : ℕ) → IsCovered v xs row root → IsCovered w ys row root

-- the column's root has a leaf, as the worker knows, or each of the column's rows is covered
abbrev pub IsCoveredColumn : State → WorkerState → List Candidate → ℕ → Type 0
IsCoveredColumn s w xs c = (x : ℕ) × RootOf s.base s.claims x c
    × (KnowsLeaf w x ⊎ ((r : ℕ) → Among r (column s.matrix c) → IsCovered w xs r x))
