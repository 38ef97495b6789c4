-- What contracts see of a session.
use Rattle.std.specs.Prelude.{◌≡◌, ◌⊎◌, ◌↔◌, ◌+◌, ◌≤◌, ℕ, Bool, List, length}
use Rattle.bip_defs.specs.EditedMatrix.{without_place}
use Rattle.bip_defs.specs.Lists.{Among, IsMarked}
use Rattle.bip_defs.specs.Matching.{IsMaximum, cols_of, rows_of}
use Rattle.bip_defs.specs.Matrix.{IsEntry, Matrix, Place, cols, entry_count, transpose}
use Rattle.bip_defs.specs.Paths.{IsParted}
use Rattle.bip_graph.specs.Matching.{IsMatchingOf, IsMaximumOf, Pairing}
use Rattle.vertex_cover.specs.Back.{IsSearchedTo}
use Rattle.vertex_cover.specs.Covers.{IsCover, IsCovered, IsSearchedFrom}
use Rattle.vertex_cover.specs.Over.{IsSearchedOverMate}
use Rattle.edit_session.specs.declared.session.Kept.{Kept}

-- a matrix, a matching of it, and the marks of the vertex cover that is kept beside them
pub record MatchedMatrix : Type 0 where
  pub matrix : Matrix
  pub matching : Pairing
  pub marks : List Bool

abbrev pub matched : Matrix → Pairing → List Bool → MatchedMatrix
matched a m marks = record { matrix = a; matching = m; marks = marks }

-- the matching saturates the rows or the columns: each row is matched, or each column
abbrev pub IsSaturating : Matrix → List Place → Type 0
IsSaturating a m = (length m ≡ a.rows) ⊎ (length m ≡ cols a)

-- n has the pairs of m, and p
abbrev pub IsPaired : Place → List Place → List Place → Type 0
IsPaired p m n = (q : Place) → Among q n ↔ ((q ≡ p) ⊎ Among q m)

-- the matching is maximum, the marks are those of a vertex cover beside it, and b is the transpose
pub record IsKept (a b : Matrix) (m : Pairing) (marks : List Bool) : Type 0 where
  pub maximum : IsMaximumOf a m
  pub cover : IsCover a m.pairs marks
  pub rows : b ≡ transpose a

abbrev pub IsWhole : Kept → Type 0
IsWhole k = IsKept k.columns.matrix k.rows.matrix k.matching k.cover

-- an entry more raises no rank, as the pairs and the marks of the cover show
abbrev pub IsSettled : Place → Matrix → List Place → List Bool → Type 0
IsSettled p a m marks = IsSaturating a m ⊎ IsCovered m marks p

abbrev pub HasSettled : Place → Kept → Type 0
HasSettled p k = IsSettled p k.columns.matrix k.matching.pairs k.cover

-- nor does one that is there
abbrev pub NeedsNoSearch : Place → MatchedMatrix → Type 0
NeedsNoSearch p old = IsEntry old.matrix p.0 p.1 ⊎ IsSettled p old.matrix old.matching.pairs old.marks

-- what the searches for the new entry p of the matrix a make of the pairs m and of the marks, with the count of steps
-- before and after them, by whether the entry's column and row had a mate
pub record SearchesFor (p : Place) (a : Matrix) (m : List Place) (marks : List Bool) (n : List Place) (marks2 : List Bool) (before after : ℕ) : Type 0 where
  -- both had one
  pub over : Among p.1 (cols_of m) → Among p.0 (rows_of m) → IsSearchedOverMate p.0 a m marks n marks2 before after
  -- the column alone
  pub to : Among p.1 (cols_of m) → ¬ Among p.0 (rows_of m) → IsSearchedTo p.0 a (transpose a) m marks n marks2 before after
  -- the row alone
  pub from : ¬ Among p.1 (cols_of m) → Among p.0 (rows_of m) → IsSearchedFrom p.1 a m marks n marks2 before after
  -- none: they become a pair
  pub paired : ¬ Among p.1 (cols_of m) → ¬ Among p.0 (rows_of m) → IsPaired p m n × (after ≡ before)

-- the same where the new entry is not settled
abbrev pub EntrySearches : Place → Kept → Kept → ℕ → ℕ → Type 0
EntrySearches p old new before after = ¬ HasSettled p old → SearchesFor p old.columns.matrix old.matching.pairs old.cover new.matching.pairs new.cover before after

-- the same between two states of a session, where a search is needed
abbrev pub Searches : Place → MatchedMatrix → MatchedMatrix → ℕ → ℕ → Type 0
Searches p old new before after = ¬ NeedsNoSearch p old → SearchesFor p new.matrix old.matching.pairs old.marks new.matching.pairs new.marks before after

-- p is a new entry of the matrix a, whose transpose is b: the matching and the cover are those without it
pub record IsNewEntry (p : Place) (a b : Matrix) (m : Pairing) (marks : List Bool) : Type 0 where
  pub entry : IsEntry a p.0 p.1
  pub matching : IsMatchingOf a m
  pub rows : b ≡ transpose a
  pub maximum : IsMaximum (without_place a p) m.pairs
  pub cover : IsCover (without_place a p) m.pairs marks

abbrev pub HasNewEntry : Place → Kept → Type 0
HasNewEntry p k = IsNewEntry p k.columns.matrix k.rows.matrix k.matching k.cover

-- what the search makes of the other pairs, where the entry p that is cleared was a pair
pub record ClearSearches (p : Place) (old new : MatchedMatrix) (before after : ℕ) : Type 0 where
  -- its column was marked: back from its row
  pub to : Among p old.matching.pairs → IsMarked old.marks p.1 → (rest : List Place) × IsParted p old.matching.pairs rest
      × IsSearchedTo p.0 new.matrix (transpose new.matrix) rest old.marks new.matching.pairs new.marks before after
  -- it was not: from its column
  pub from : Among p old.matching.pairs → ¬ IsMarked old.marks p.1 → (rest : List Place) × IsParted p old.matching.pairs rest
      × IsSearchedFrom p.1 new.matrix rest old.marks new.matching.pairs new.marks before after

-- what clearing the entry p makes of a session, with the count of steps before and after it
pub record Clears (p : Place) (old new : MatchedMatrix) (before after : ℕ) : Type 0 where
  pub matrix : new.matrix ≡ without_place old.matrix p
  pub steps : after ≤ before + (cols old.matrix + entry_count old.matrix)
  pub no_step : ¬ Among p old.matching.pairs → after ≡ before
  pub searched : ClearSearches p old new before after
