-- What one step of a search does.
use Rattle.std.specs.Prelude.{◌≡◌, ℕ, ◌+◌, ◌-◌, ◌<◌, Bool, List, length}
use Rattle.bip_defs.specs.Lists.{Among}
use Rattle.bip_defs.specs.Marks.{IsExplored}
use Rattle.bip_defs.specs.Matching.{cols_of, rows_of}
use Rattle.bip_defs.specs.Matrix.{AreEntries, Matrix, Place}
use Rattle.bip_defs.specs.Paths.{IsAugmenting}
use Rattle.path_search.specs.Search.{Exhausts, HasMarked, SearchState}
use Rattle.path_search.specs.Trails.{IsSearchAt}
use Rattle.path_search.specs.declared.step.Step.{Step}
use Rattle.path_search.specs.declared.step.Step.TheVariants.{Found, On, Stuck}

-- the same search goes on: the rows that it has visited since its start are those that it has
-- marked since
pub record Onward (old new : SearchState) : Type 0 where
  pub cols_stay : new.cols ≡ old.cols
  pub root_stays : new.root ≡ old.root
  pub marks : (start : List Bool) → HasMarked old.visited start old.marks
      → HasMarked new.visited start new.marks

-- its path is augmenting, over rows that it has visited
pub record HasFound (a : Matrix) (m : List Place) (s : SearchState) : Type 0 where
  pub augmenting : IsAugmenting m s.path
  pub entries : AreEntries a s.path
  pub from_root : Among s.root (cols_of s.path)
  pub visited : (r : ℕ) → Among r (rows_of s.path) → Among r s.visited

-- what falls with each step: twice the rows that are unvisited, and the path's length
abbrev pub steps_left : Matrix → SearchState → ℕ
steps_left a s = (a.rows - length s.visited) + (a.rows - length s.visited) + length s.path

pub record Continues (a : Matrix) (m : List Place) (reversed : Bool) (old new : SearchState)
    (c k : ℕ) : Type 0 where
  pub onward : Onward old new
  pub search : IsSearchAt a m reversed new c k
  pub falls : steps_left a new < steps_left a old

-- a step down from a column
abbrev pub Descends : Matrix → List Place → Bool → SearchState → SearchState → ℕ → Step → Type 0
Descends a m reversed old new c Found = Onward old new × HasFound a m new
Descends a m reversed old new c Stuck = (new ≡ old) × IsExplored a old.marks c
Descends a m reversed old new c (On s) = Continues a m reversed old new s.col s.place

-- a step down or back
abbrev pub Advances : Matrix → List Place → Bool → SearchState → SearchState → Step → Type 0
Advances a m reversed old new Found = Onward old new × HasFound a m new
Advances a m reversed old new Stuck = Onward old new × Exhausts a m new.marks new.visited old.root
Advances a m reversed old new (On s) = Continues a m reversed old new s.col s.place
