-- Shares of a list, one for each worker.
use Rattle.std.specs.Prelude.{ℕ, ◌+◌, ◌*◌, ◌/◌, List, length, slice_range}
use Rattle.bip_defs.specs.Lists.{Among, numbers_of}
use Rattle.bip_defs.specs.Matrix.{Place}
use Rattle.claim_words.specs.WorkerState.{WorkerState}
use Rattle.level_sharing.specs.Each.{EachFrom}

-- of so many workers, the share of the worker i: its places from `i * l / workers` on, up to `(i +
-- 1) * l / workers`, of l
abbrev pub share_of : {X : Type 0} → List X → ℕ → ℕ → List X
share_of xs workers i = slice_range xs (i * length xs / workers) ((i + 1) * length xs / workers)

-- what a worker may claim: any row by these columns, or these rows by any column
pub data Share : Type 0 where
  by_columns : (cols : List ℕ) → Share
  of_rows : (rows : List ℕ) → Share

abbrev pub IsOwn : Share → Place → Type 0
IsOwn (by_columns cols) p = Among p.1 cols
IsOwn (of_rows rows) p = Among p.0 rows

-- what is of the one share is of the other
abbrev pub IsWithin : Share → Share → Type 0
IsWithin own wide = (r c : ℕ) → IsOwn own (r, c) → IsOwn wide (r, c)

-- each fresh claim of a worker is of its own, and each of its fresh wins has the row of one of its
-- own fresh claims as leaf
pub record KeepsTo (own : Share) (w : WorkerState) : Type 0 where
  pub claims : (p : Place) → Among p w.fresh_claims → IsOwn own p
  pub wins : (p : ℕ × ℕ) → Among p w.fresh_wins → Among p.1 (numbers_of w.fresh_claims)

-- so does each of these workers, with its own share
abbrev pub KeepToShares : (ℕ → Share) → List WorkerState → Type 0
KeepToShares own ws = EachFrom (λ (i : ℕ). λ (w : WorkerState). KeepsTo (own i) w) 0 ws

-- of so many workers, each has a share of these columns
abbrev pub shares_by_columns : List ℕ → ℕ → ℕ → Share
shares_by_columns cols workers i = by_columns (share_of cols workers i)

-- or of these rows
abbrev pub shares_of_rows : List ℕ → ℕ → ℕ → Share
shares_of_rows rows workers i = of_rows (share_of rows workers i)

-- each worker claims by columns of its share of these alone
abbrev pub KeepToColumns : List ℕ → List WorkerState → Type 0
KeepToColumns cols ws = KeepToShares (shares_by_columns cols (length ws)) ws

-- each worker claims rows of its share of these alone
abbrev pub KeepToRows : List ℕ → List WorkerState → Type 0
KeepToRows rows ws = KeepToShares (shares_of_rows rows (length ws)) ws
