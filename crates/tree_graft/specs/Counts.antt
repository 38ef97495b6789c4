-- How many rows or columns of a forest there are of a kind.
use Rattle.std.specs.Prelude.{◌≡◌, ℕ, ◌*◌, ◌<◌, List, [], length}
use Rattle.bip_defs.specs.Forest.{HasWon, InForest, IsWon, State}
use Rattle.bip_defs.specs.Lists.{Among}
use Rattle.bip_defs.specs.Matching.{rows_of}
use Rattle.bip_defs.specs.Once.{ListsOnce}
use Rattle.forest_core.specs.Events.{AreKept}

-- so many numbers have P: a list that has each of them once, and nothing else, is so long
abbrev pub IsCountOf : (ℕ → Type 0) → ℕ → Type 0
IsCountOf P n = (xs : List ℕ) × ListsOnce P xs × (length xs ≡ n)

-- a claimed row whose root has a leaf: the exchange of the paths frees it
abbrev pub IsFreed : State → ℕ → Type 0
IsFreed s r = Among r (rows_of s.claims) × IsWon s r

-- a column of the forest whose root has no leaf
abbrev pub IsKept : State → ℕ → Type 0
IsKept s c = InForest s c × (¬ HasWon s c)

-- fewer than five rows are freed for each column that is kept
abbrev pub FreesFew : State → Type 0
FreesFew s = (kept : ℕ) × (freed : ℕ) × IsCountOf (IsKept s) kept × IsCountOf (IsFreed s) freed
    × (freed < 5 * kept)

-- the claims of the trees without a leaf are kept where P holds, and else none
pub record AreKeptIf (P : Type 0) (s t : State) : Type 0 where
  pub kept : P → AreKept s s.claims t.claims
  pub cleared : ¬ P → t.claims ≡ []
