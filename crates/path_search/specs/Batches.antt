-- What a batch of columns leads to.
use Rattle.std.specs.Prelude.{◌≡◌, ◌⊎◌, ℕ, ◌+◌, ◌<◌, ◌≤◌, Bool, List, [], length, map, slice_index_or}
use Rattle.std.specs.Borrow.{Bor}
use Rattle.bip_defs.specs.Lists.{Among, IsMarked}
use Rattle.bip_defs.specs.Matching.{cols_of}
use Rattle.bip_defs.specs.Matrix.{IsEntry, Matrix, Place}
use Rattle.bip_graph.specs.Matching.{Pairing}
use Rattle.path_search.specs.Forests.{HaveNoPath, Trees, reached_at}
use Rattle.path_search.specs.declared.batches.RowCandidate.{RowCandidate}
use Rattle.path_search.specs.declared.reached.Reached.{Reached}

-- the rows of some lists, by their numbers
abbrev pub numbers_in : {F : Type 0} → (F → ℕ) → List (Bor (List F)) → List (List ℕ)
numbers_in {F = F} number lists = map (λ (list : Bor (List F)). map number list.now) lists

-- rows in which the column has entries, and all of them unless its root is matched
pub record HasRows (a : Matrix) (m : List Place) (x : Reached) (rows : List ℕ) : Type 0 where
  pub sound : (r : ℕ) → Among r rows → IsEntry a r x.col
  pub complete : ¬ Among x.root (cols_of m) → (r : ℕ) → IsEntry a r x.col → Among r rows

-- the list at a place; none past the end
abbrev pub list_at : List (List ℕ) → ℕ → List ℕ
list_at lists i = slice_index_or lists i []

-- the first lists are the rows of so many columns of the queue, from a place on
abbrev pub HaveRows : Matrix → List Place → List Reached → ℕ → ℕ → List (List ℕ) → Type 0
HaveRows a m q place count lists = (i : ℕ) → i < count → HasRows a m (reached_at q (place + i)) (list_at lists i)

-- so many columns of the queue, from a place on, with their rows
pub record IsBatch (a : Matrix) (m : List Place) (q : List Reached) (place count : ℕ)
    (lists : List (List ℕ)) : Type 0 where
  pub within : place + count ≤ length q
  pub lists_are : HaveRows a m q place count lists

abbrev pub candidate : ℕ → ℕ → RowCandidate
candidate place r = record { row = r; place = place }

-- the column at the candidate's place of the queue has an entry in its row
pub record LeadsToRow (a : Matrix) (q : List Reached) (x : RowCandidate) : Type 0 where
  pub within : x.place < length q
  pub entry : IsEntry a x.row (reached_at q x.place).col

-- a column's rows, each with the column's place
abbrev pub candidates_of : ℕ → List ℕ → List RowCandidate
candidates_of place rows = map (λ (r : ℕ). candidate place r) rows

-- the candidates are the rows of the lists from one to another, each with its column's place
pub record Gathers (lists : List (List ℕ)) (place from to : ℕ) (new : List RowCandidate) : Type 0 where
  pub sound : (x : RowCandidate) → Among x new → (i : ℕ) × (from ≤ i) × (i < to) × (x.place ≡ place + i)
      × Among x.row (list_at lists i)
  pub complete : (i : ℕ) → from ≤ i → i < to → (r : ℕ) → Among r (list_at lists i)
      → Among (candidate (place + i) r) new

-- some of the candidates, with each whose row is unmarked
pub record KeepsUnmarked (marks : List Bool) (old new : List RowCandidate) : Type 0 where
  pub sound : (x : RowCandidate) → Among x new → Among x old
  pub complete : (x : RowCandidate) → Among x old → IsMarked marks x.row ⊎ Among x new

-- where no tree had found a path none has after these visits, and the rows of the candidates are marked
abbrev pub FindNoPath : Matrix → List Place → Trees → Trees → List RowCandidate → Type 0
FindNoPath a m old new candidates = (place : ℕ) → place ≤ length old.queue → HaveNoPath a m old place
    → HaveNoPath a m new place × ((x : RowCandidate) → Among x candidates → IsMarked new.marks x.row)

-- the candidates are visited: the matching stays, as no tree finds a path, or it grows
abbrev pub Follows : Matrix → Pairing → Pairing → Trees → Trees → List RowCandidate → Type 0
Follows a m n old new candidates = ((n ≡ m) × FindNoPath a m.pairs old new candidates)
    ⊎ (length m.pairs < length n.pairs)
